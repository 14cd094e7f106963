-- The switches of a stage that a set has by their labels.
use Rattle.std.proofs.Common.{◌≡◌, ℕ, ◌*◌, ◌%◌, ◌^◌, ◌<◌, ◌≤◌, Bool, true, false, cond, refl, ap, sym, ◌∙◌, ◌⊎◌, inl, inr, arith}
use Rattle.std.specs.Prelude.{◌==◌, ◌&&◌, ◌||◌, nat_lt, bit_and, bit_or}
use Rattle.std.specs.Int.{bit_at, bit_not, w64}
use Rattle.std.proofs.lemmas.Bool.{cases_eq, ltb-true, lt-ltb, eqb-true, eq-eqb}
use Rattle.std.proofs.lemmas.Nat.{one_shl, and_le_l}
use Rattle.std.proofs.lemmas.Nat.Bits.{bit_at-pow_same, bit_at-pow_other, bit_at_clear_same}
use Rattle.omega_net.specs.Numbers.{half, lines}
use Rattle.flat_row.specs.Labels.{LabelsName, line_of, switch_label}
use Rattle.flat_row.specs.Masks.{has}
use Rattle.flat_row.proofs.Labelling.{each_is_named}
use Rattle.flat_row.proofs.Marking.{without_label}
use Rattle.flat_row.proofs.Masking.{has_or}
use Rattle.whole_rows.specs.Among.{in_stage}
use Rattle.whole_rows.proofs.Placing.{has_none, lines_few}

false_true : false ≡ true → ⊥
false_true e = cc

module _ (k stage label : ℕ) (there : stage < k) where
  names : LabelsName k
  names = each_is_named k

  first_within : (j : ℕ) → j < half k → j < lines k
  first_within j h = omega (arith, h)

  pub label_within : (j : ℕ) → j < half k → switch_label k stage j < lines k
  label_within j h = names.within stage j (omega arith) (first_within j h)

  -- the number of the switch that has the label is the one that is looked up
  found : (index j : ℕ) → index ≡ line_of k stage label → j < half k → switch_label k stage j ≡ label → j ≡ index
  found index j is h e = sym (names.lines_back stage j (omega arith) (first_within j h)) ∙ ap (line_of k stage) e ∙ sym is

  no_switch : (j : ℕ) → (j < half k → switch_label k stage j ≡ label → ⊥) → (nat_lt j (half k) && (switch_label k stage j == label)) ≡ false
  no_switch j apart = by_tests (nat_lt j (half k)) refl (switch_label k stage j == label) refl
    where
      by_tests : (a : Bool) → nat_lt j (half k) ≡ a → (b : Bool) → (switch_label k stage j == label) ≡ b → (a && b) ≡ false
      by_tests false ea b eb = refl
      by_tests true ea false eb = refl
      by_tests true ea true eb = absurd (apart (ltb-true j (half k) ea) (eqb-true (switch_label k stage j) label eb))

  -- a label behind the last is no switch's
  pub past_lines : lines k ≤ label → (j : ℕ) → j < 64 → has 0 j ≡ (nat_lt j (half k) && (switch_label k stage j == label))
  past_lines past j h = has_none j ∙ sym (no_switch j (λ lt e. omega (arith, label_within j lt, e, past)))

  -- the label of a port that is no switch's first
  pub second_port : (index : ℕ) → index ≡ line_of k stage label → half k ≤ index → (j : ℕ) → j < 64 → has 0 j ≡ (nat_lt j (half k) && (switch_label k stage j == label))
  second_port index is high j h = has_none j ∙ sym (no_switch j (λ lt e. omega (arith, found index j is lt e, lt, high)))

  -- the label of a switch's first port
  pub first_port : (index : ℕ) → index ≡ line_of k stage label → label < lines k → index < half k → index < 64
      → (j : ℕ) → j < 64 → has (1 * 2 ^ index % 2 ^ 64) j ≡ (nat_lt j (half k) && (switch_label k stage j == label))
  first_port index is within low small j h = ap (λ n. has n j) (one_shl index 64 small) ∙ by_place (cases_eq j index)
    where
      by_place : (j ≡ index) ⊎ (j ≡ index → ⊥) → has (2 ^ index) j ≡ (nat_lt j (half k) && (switch_label k stage j == label))
      by_place (inl e) =
          ap (has (2 ^ index)) e
          ∙ ap (λ b. b == 1) (bit_at-pow_same index)
          ∙ sym (ap (λ a. a && (switch_label k stage j == label)) (lt-ltb j (half k) (omega (arith, e, low)))
          ∙ eq-eqb (switch_label k stage j) label (ap (switch_label k stage) (e ∙ is) ∙ names.labels_back stage label (omega arith) within))
      by_place (inr ne) = ap (λ b. b == 1) (bit_at-pow_other index j ne) ∙ sym (no_switch j (λ lt e. ne (found index j is lt e)))

-- what is left of a set of labels, while switches are marked
abbrev pub IsLeft : ℕ → ℕ → ℕ → ℕ → ℕ → Type 0
IsLeft k stage set bits rest = (j : ℕ) → j < 64 → (nat_lt j (half k) && in_stage k stage set j) ≡ (has bits j || (nat_lt j (half k) && in_stage k stage rest j))

pub all_left : (k stage set : ℕ) → IsLeft k stage set 0 set
all_left k stage set j h = sym (ap (λ b. b || (nat_lt j (half k) && in_stage k stage set j)) (has_none j))

pub none_left : (k stage set bits rest : ℕ) → rest ≡ 0 → IsLeft k stage set bits rest → (j : ℕ) → j < 64 → has bits j ≡ (nat_lt j (half k) && in_stage k stage set j)
none_left k stage set bits rest none left j h =
    sym (left j h
    ∙ ap (λ n. has bits j || (nat_lt j (half k) && in_stage k stage n j)) none
    ∙ ap (λ b. has bits j || (nat_lt j (half k) && b)) (has_none (switch_label k stage j))
    ∙ alone (has bits j) (nat_lt j (half k)))
  where
    alone : (a b : Bool) → (a || (b && false)) ≡ a
    alone true b = refl
    alone false true = refl
    alone false false = refl

-- a set without one of its labels
abbrev without : ℕ → ℕ → ℕ
without rest label = bit_and rest (bit_not w64 (1 * 2 ^ label % 2 ^ 64))

pub one_less : (k stage set bits rest label one : ℕ) → k ≤ 6 → stage < k → label < 64 → has rest label ≡ true
    → ((j : ℕ) → j < 64 → has one j ≡ (nat_lt j (half k) && (switch_label k stage j == label)))
    → IsLeft k stage set bits rest → IsLeft k stage set (bit_or bits one) (bit_and rest (bit_not w64 (1 * 2 ^ label % 2 ^ 64)))
one_less k stage set bits rest label one few there small has_it alike left j h =
    left j h ∙ by_half (nat_lt j (half k)) refl ∙ sym (ap (λ b. b || (nat_lt j (half k) && has (without rest label) (switch_label k stage j))) (has_or bits one j ∙ ap (λ b. has bits j || b) (alike j h)))
  where
    outside_too : (a : Bool) → (a || false) ≡ ((a || false) || false)
    outside_too true = refl
    outside_too false = refl

    is_it : (a : Bool) → (a || true) ≡ ((a || true) || false)
    is_it true = refl
    is_it false = refl

    is_other : (a r : Bool) → (a || r) ≡ ((a || false) || r)
    is_other true r = refl
    is_other false r = refl

    by_label : (switch_label k stage j) < 64 → (b : Bool) → ((switch_label k stage j) == label) ≡ b → (has bits j || has rest (switch_label k stage j)) ≡ ((has bits j || b) || cond b false (has rest (switch_label k stage j)))
    by_label within true e = let same : (switch_label k stage j) ≡ label = eqb-true (switch_label k stage j) label e in ap (λ r. has bits j || r) (ap (has rest) same ∙ has_it) ∙ is_it (has bits j)
    by_label within false e = is_other (has bits j) (has rest (switch_label k stage j))

    by_half : (a : Bool) → nat_lt j (half k) ≡ a → (has bits j || (a && has rest (switch_label k stage j))) ≡ ((has bits j || (a && ((switch_label k stage j) == label))) || (a && has (without rest label) (switch_label k stage j)))
    by_half false e = outside_too (has bits j)
    by_half true e =
        let within : (switch_label k stage j) < 64 = omega (arith, label_within k stage label there j (ltb-true j (half k) e), lines_few k few) in
        by_label within ((switch_label k stage j) == label) refl ∙ ap (λ b. (has bits j || ((switch_label k stage j) == label)) || b) (sym (without_label rest label small (switch_label k stage j) within))

-- it is a smaller number
pub less_left : (rest label : ℕ) → label < 64 → bit_at rest label ≡ 1 → bit_and rest (bit_not w64 (1 * 2 ^ label % 2 ^ 64)) < rest
less_left rest label small set =
    less (and_le_l rest (bit_not w64 (1 * 2 ^ label % 2 ^ 64))) (λ e. zero_one (bit_at (without rest label) label) (bit_at_clear_same w64 rest label small) (ap (λ n. bit_at n label) e ∙ set))
  where
    zero_one : (n : ℕ) → n ≡ 0 → n ≡ 1 → ⊥
    zero_one n a b = omega (arith, a, b)

    less : {a b : ℕ} → a ≤ b → (a ≡ b → ⊥) → a < b
    less {a} {b} le ne = by_order (cases_eq a b)
      where
        by_order : (a ≡ b) ⊎ (a ≡ b → ⊥) → a < b
        by_order (inl e) = absurd (ne e)
        by_order (inr n) = omega (arith, le, n)
