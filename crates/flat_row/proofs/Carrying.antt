-- Heads that move from one level to another, one after another in the order of their labels.
use Rattle.std.proofs.Common.{◌≡◌, ℕ, zero, suc, ◌+◌, ◌-◌, ◌*◌, ◌^◌, ◌<◌, ◌≤◌, Bool, true, false, cond, List, refl, ap, sym, ◌∙◌, inl, inr, Option, None, Some, arith}
use Rattle.std.specs.Prelude.{◌==◌, ◌&&◌, nat_lt}
use Rattle.std.proofs.lemmas.Bool.{cases_lt, eqb-true, eq-eqb, lt-ltb, le-ltb}
use Rattle.std.proofs.lemmas.Nat.{pow_pos}
use Rattle.std.proofs.lemmas.Nat.Bits.{bit_at-lt}
use Rattle.arrayvec.specs.ArrayVec.{ArrayVec}
use Rattle.omega_net.specs.Wires.{bit}
use Rattle.omega_net.specs.Queues.{head, without_head, joined}
use Rattle.flat_row.specs.Labels.{port}
use Rattle.flat_row.specs.Masks.{has}
use Rattle.flat_row.specs.Queues.{Queues}
use Rattle.flat_row.specs.Row.{queue_of}
use Rattle.flat_row.specs.Rows.{if_leaves}
use Rattle.flat_row.specs.Moving.{label_to, passed, sent_to, arrival, moved}
use Rattle.flat_row.proofs.Masking.{ports_of, ArePorts, same_first, same_second, first_port, other_port, room_below}

pub false_true : false ≡ true → ⊥
false_true e = cc

and_false : (a : Bool) → (a && false) ≡ false
and_false true = refl
and_false false = refl

power : (b : ℕ) → 0 < 2 ^ b
power b = pow_pos b

positive : (d : ℕ) → 0 < d → 1 ≤ d
positive d h = omega (arith, h)

-- ports of ports, and a label's own port
pub port_again : (b x i j : ℕ) → b < 6 → x < 64 → i < 2 → j < 2 → port b i (port b j x) ≡ port b i x
port_again b x zero zero few small p q = let ports : ArePorts b x = ports_of b x few small in ports.again_00
port_again b x zero (suc zero) few small p q = let ports : ArePorts b x = ports_of b x few small in ports.again_01
port_again b x (suc zero) zero few small p q = let ports : ArePorts b x = ports_of b x few small in ports.again_10
port_again b x (suc zero) (suc zero) few small p q = let ports : ArePorts b x = ports_of b x few small in ports.again_11
port_again b x (suc (suc i)) j few small p q = absurd (omega arith)
port_again b x zero (suc (suc j)) few small p q = absurd (omega arith)
port_again b x (suc zero) (suc (suc j)) few small p q = absurd (omega arith)

pub own_port : (b x : ℕ) → port b (bit b x) x ≡ x
own_port b x = by_bit (bit b x) refl (bit_at-lt x b)
  where
    by_bit : (t : ℕ) → bit b x ≡ t → t < 2 → port b t x ≡ x
    by_bit zero e h = same_first b x e
    by_bit (suc zero) e h = same_second b x e
    by_bit (suc (suc t)) e h = absurd (omega arith)

-- the bit of a port, and that ports are labels
pub port_bit : (b x i : ℕ) → b < 6 → x < 64 → i < 2 → bit b (port b i x) ≡ i
port_bit b x zero few small h = let ports : ArePorts b x = ports_of b x few small in ports.bit_0
port_bit b x (suc zero) few small h = let ports : ArePorts b x = ports_of b x few small in ports.bit_1
port_bit b x (suc (suc i)) few small h = absurd (omega arith)

pub port_small : (b x i : ℕ) → b < 6 → x < 64 → i < 2 → port b i x < 64
port_small b x zero few small h = let ports : ArePorts b x = ports_of b x few small in omega (arith, ports.below, lower (x - bit b x * 2 ^ b) (2 ^ b))
  where
    lower : (a d : ℕ) → a + 0 * d ≤ a + 1 * d
    lower a d = omega arith
port_small b x (suc zero) few small h = let ports : ArePorts b x = ports_of b x few small in ports.below
port_small b x (suc (suc i)) few small h = absurd (omega arith)

-- a port of another label is this one only in its switch
in_switch : (b x z i : ℕ) → b < 6 → z < 64 → i < 2 → port b i z ≡ x → z ≡ port b (bit b z) x
in_switch b x z i few small h e = sym (own_port b z) ∙ sym (port_again b z (bit b z) i few small (bit_at-lt z b) h) ∙ ap (port b (bit b z)) e

-- the labels of a set below n
abbrev pub upto : ℕ → ℕ → ℕ → Bool
upto leave n z = nat_lt z n && has leave z

pub upto_other : (leave n x z : ℕ) → n ≤ x → ((y : ℕ) → n ≤ y → y < x → has leave y ≡ false) → (z ≡ x → ⊥) → upto leave (x + 1) z ≡ upto leave n z
upto_other leave n x z le none ne = elim (cases_lt z n) [
  | inl h ↦ rw (lt-ltb z n h, lt-ltb z (x + 1) (omega (arith, h, le))) refl
  | inr h ↦ elim (cases_lt z x) [
    | inl g ↦ ap (λ t. nat_lt z (x + 1) && t) (none z h g) ∙ and_false (nat_lt z (x + 1)) ∙ sym (ap (λ t. nat_lt z n && t) (none z h g) ∙ and_false (nat_lt z n))
    | inr g ↦ rw (le-ltb z n h, le-ltb z (x + 1) (later g)) refl
  ]
]
  where
    later : x ≤ z → x + 1 ≤ z
    later g = elim (cases_lt x z) [
      | inl h ↦ omega (arith, h)
      | inr h ↦ absurd (ne (omega (arith, g, h)))
    ]

pub upto_here : (leave x : ℕ) → has leave x ≡ true → upto leave (x + 1) x ≡ true
upto_here leave x e = ap (λ t. t && has leave x) (lt-ltb x (x + 1) (omega arith)) ∙ e

pub upto_later : (leave n z : ℕ) → n ≤ z → upto leave n z ≡ false
upto_later leave n z h = ap (λ t. t && has leave z) (le-ltb z n h)

pub upto_none : (leave z : ℕ) → upto leave 0 z ≡ false
upto_none leave z = upto_later leave 0 z (omega arith)

-- the first steps: nothing has moved, and all has
module _ {T : Type 0} (route : T → ℕ) (b from to : ℕ) (levels : List (Queues T)) where
  moved_alike : (f g : ℕ → Bool) (l z : ℕ) → f z ≡ g z → f (port b 0 z) ≡ g (port b 0 z) → f (port b 1 z) ≡ g (port b 1 z) → moved route b f from to levels l z ≡ moved route b g from to levels l z
  moved_alike f g l z e c d =
      ap (λ t. made t (f (port b 0 z)) (f (port b 1 z))) e ∙ ap (λ t. made (g z) t (f (port b 1 z))) c ∙ ap (λ t. made (g z) (g (port b 0 z)) t) d
    where
      made : Bool → Bool → Bool → ArrayVec T
      made own first second =
          cond (l == from) (without_head own (queue_of levels from z))
          (cond (l == to) (joined (joined (queue_of levels to z) (sent_to route b (bit b z) (if_leaves first (queue_of levels from (port b 0 z))))) (sent_to route b (bit b z) (if_leaves second (queue_of levels from (port b 1 z)))))
          (queue_of levels l z))

  pub none_moved : (leave l z : ℕ) → queue_of levels l z ≡ moved route b (upto leave 0) from to levels l z
  none_moved leave l z =
      by_tests (l == from) (l == to) refl refl
      ∙ sym (moved_alike (upto leave 0) (λ y. false) l z (upto_none leave z) (upto_none leave (port b 0 z)) (upto_none leave (port b 1 z)))
    where
      by_tests : (f t : Bool) → (l == from) ≡ f → (l == to) ≡ t → queue_of levels l z ≡ cond f (queue_of levels from z) (cond t (queue_of levels to z) (queue_of levels l z))
      by_tests true t e c = ap (λ n. queue_of levels n z) (eqb-true l from e)
      by_tests false true e c = ap (λ n. queue_of levels n z) (eqb-true l to c)
      by_tests false false e c = refl

  pub all_moved : (leave n l z : ℕ) → b < 6 → z < 64 → ((y : ℕ) → n ≤ y → y < 64 → has leave y ≡ false) → moved route b (upto leave n) from to levels l z ≡ moved route b (has leave) from to levels l z
  all_moved leave n l z few small none = moved_alike (upto leave n) (has leave) l z (each z small) (each (port b 0 z) (port_small b z 0 few small (omega arith))) (each (port b 1 z) (port_small b z 1 few small (omega arith)))
    where
      each : (y : ℕ) → y < 64 → upto leave n y ≡ has leave y
      each y h = elim (cases_lt y n) [
        | inl g ↦ ap (λ t. t && has leave y) (lt-ltb y n g)
        | inr g ↦ ap (λ t. t && has leave y) (le-ltb y n g) ∙ sym (none y g h)
      ]

  -- one head more
  module _ (leave n x : ℕ) (few : b < 6) (apart : from ≡ to → ⊥) (small : x < 64) (le : n ≤ x) (none : (y : ℕ) → n ≤ y → y < x → has leave y ≡ false) (here : has leave x ≡ true)
      (m : T) (shown : head (queue_of levels from x) ≡ Some m) where
    abbrev y0 : ℕ
    y0 = port b (bit b (route m)) x

    other : (z : ℕ) → (z ≡ x → ⊥) → upto leave (x + 1) z ≡ upto leave n z
    other z ne = upto_other leave n x z le none ne

    -- what comes to a queue by a port
    abbrev comes : Bool → ℕ → ℕ → Option T
    comes leaves i z = sent_to route b (bit b z) (if_leaves leaves (queue_of levels from (port b i z)))

    abbrev before : ℕ → ArrayVec T
    before z = joined (joined (queue_of levels to z) (arrival route b (upto leave n) levels from 0 z)) (arrival route b (upto leave n) levels from 1 z)

    abbrev behind : ℕ → ArrayVec T
    behind z = joined (joined (queue_of levels to z) (arrival route b (upto leave (x + 1)) levels from 0 z)) (arrival route b (upto leave (x + 1)) levels from 1 z)

    -- in the switch of x, the head comes to the queue that it asks for
    sent : (z : ℕ) → cond (bit b (route m) == bit b z) (Some m) None ≡ sent_to route b (bit b z) (head (queue_of levels from x))
    sent z = sym (ap (sent_to route b (bit b z)) shown)

    asked : (z : ℕ) → z < 64 → z ≡ port b (bit b z) x → (z == y0) ≡ (bit b (route m) == bit b z)
    asked z zs is = by_test (bit b (route m) == bit b z) refl
      where
        by_test : (t : Bool) → (bit b (route m) == bit b z) ≡ t → (z == y0) ≡ t
        by_test true e = eq-eqb z y0 (is ∙ ap (λ i. port b i x) (sym (eqb-true (bit b (route m)) (bit b z) e)))
        by_test false e = not_eq (z == y0) refl
          where
            not_eq : (s : Bool) → (z == y0) ≡ s → s ≡ false
            not_eq false g = refl
            not_eq true g =
                let same : z ≡ y0 = eqb-true z y0 g in
                absurd (false_true (sym e ∙ eq-eqb (bit b (route m)) (bit b z) (sym (port_bit b x (bit b (route m)) few small (bit_at-lt (route m) b)) ∙ ap (bit b) (sym same))))

    join_if : (q : ArrayVec T) (t : Bool) → joined q (cond t (Some m) None) ≡ cond t (joined q (Some m)) q
    join_if q true = refl
    join_if q false = refl

    -- the arrivals at a queue of the switch
    at_switch : (z : ℕ) → z < 64 → z ≡ port b (bit b z) x → cond (z == y0) (joined (before z) (Some m)) (before z) ≡ behind z
    at_switch z zs is = ap (λ t. cond t (joined (before z) (Some m)) (before z)) (asked z zs is) ∙ by_bit (bit b x) refl (bit_at-lt x b)
      where
        same_port : (i : ℕ) → i < 2 → port b i z ≡ port b i x
        same_port i h = ap (port b i) is ∙ port_again b x i (bit b z) few small h (bit_at-lt z b)

        t : Bool
        t = bit b (route m) == bit b z

        first : (leaves : ℕ → Bool) → arrival route b leaves levels from 0 z ≡ sent_to route b (bit b z) (if_leaves (leaves (port b 0 x)) (queue_of levels from (port b 0 x)))
        first leaves = ap (λ p. sent_to route b (bit b z) (if_leaves (leaves p) (queue_of levels from p))) (same_port 0 (omega arith))

        second : (leaves : ℕ → Bool) → arrival route b leaves levels from 1 z ≡ sent_to route b (bit b z) (if_leaves (leaves (port b 1 x)) (queue_of levels from (port b 1 x)))
        second leaves = ap (λ p. sent_to route b (bit b z) (if_leaves (leaves p) (queue_of levels from p))) (same_port 1 (omega arith))

        nothing : (p : ℕ) → sent_to route b (bit b z) (if_leaves false (queue_of levels from p)) ≡ None
        nothing p = refl

        by_bit : (i : ℕ) → bit b x ≡ i → i < 2 → cond (bit b (route m) == bit b z) (joined (before z) (Some m)) (before z) ≡ behind z
        by_bit zero e h =
            let p : port b 0 x ≡ x = same_first b x e in
            let far : n ≤ port b 1 x = omega (arith, le, other_port b x e) in
            let farther : x + 1 ≤ port b 1 x = omega (arith, other_port b x e, positive (2 ^ b) (power b)) in
            let a : arrival route b (upto leave n) levels from 0 z ≡ None = first (upto leave n) ∙ ap (λ q. sent_to route b (bit b z) (if_leaves (upto leave n q) (queue_of levels from q))) p ∙ ap (λ s. sent_to route b (bit b z) (if_leaves s (queue_of levels from x))) (upto_later leave n x le) in
            let c : arrival route b (upto leave n) levels from 1 z ≡ None = second (upto leave n) ∙ ap (λ s. sent_to route b (bit b z) (if_leaves s (queue_of levels from (port b 1 x)))) (upto_later leave n (port b 1 x) far) in
            let d : arrival route b (upto leave (x + 1)) levels from 0 z ≡ cond (bit b (route m) == bit b z) (Some m) None =
            first (upto leave (x + 1)) ∙ ap (λ q. sent_to route b (bit b z) (if_leaves (upto leave (x + 1) q) (queue_of levels from q))) p ∙ ap (λ s. sent_to route b (bit b z) (if_leaves s (queue_of levels from x))) (upto_here leave x here) ∙ sym (sent z) in
            let f : arrival route b (upto leave (x + 1)) levels from 1 z ≡ None = second (upto leave (x + 1)) ∙ ap (λ s. sent_to route b (bit b z) (if_leaves s (queue_of levels from (port b 1 x)))) (upto_later leave (x + 1) (port b 1 x) farther) in
            let start : before z ≡ queue_of levels to z = ap (λ o. joined (joined (queue_of levels to z) o) (arrival route b (upto leave n) levels from 1 z)) a ∙ ap (λ o. joined (queue_of levels to z) o) c in
            ap (λ q. cond (bit b (route m) == bit b z) (joined q (Some m)) q) start
            ∙ sym (join_if (queue_of levels to z) (bit b (route m) == bit b z))
            ∙ sym (ap (λ o. joined (joined (queue_of levels to z) o) (arrival route b (upto leave (x + 1)) levels from 1 z)) d ∙ ap (λ o. joined (joined (queue_of levels to z) (cond (bit b (route m) == bit b z) (Some m) None)) o) f)
        by_bit (suc zero) e h =
            let p : port b 1 x ≡ x = same_second b x e in
            let low : port b 0 x ≡ x - 2 ^ b = first_port b x e in
            let room : 2 ^ b ≤ x = room_below b x e in
            let a : arrival route b (upto leave (x + 1)) levels from 0 z ≡ arrival route b (upto leave n) levels from 0 z =
            first (upto leave (x + 1)) ∙ ap (λ s. sent_to route b (bit b z) (if_leaves s (queue_of levels from (port b 0 x)))) (other (port b 0 x) (λ g. omega (arith, g, low, room, power b))) ∙ sym (first (upto leave n)) in
            let c : arrival route b (upto leave n) levels from 1 z ≡ None = second (upto leave n) ∙ ap (λ q. sent_to route b (bit b z) (if_leaves (upto leave n q) (queue_of levels from q))) p ∙ ap (λ s. sent_to route b (bit b z) (if_leaves s (queue_of levels from x))) (upto_later leave n x le) in
            let d : arrival route b (upto leave (x + 1)) levels from 1 z ≡ cond (bit b (route m) == bit b z) (Some m) None =
            second (upto leave (x + 1)) ∙ ap (λ q. sent_to route b (bit b z) (if_leaves (upto leave (x + 1) q) (queue_of levels from q))) p ∙ ap (λ s. sent_to route b (bit b z) (if_leaves s (queue_of levels from x))) (upto_here leave x here) ∙ sym (sent z) in
            let start : before z ≡ joined (queue_of levels to z) (arrival route b (upto leave n) levels from 0 z) = ap (λ o. joined (joined (queue_of levels to z) (arrival route b (upto leave n) levels from 0 z)) o) c in
            ap (λ q. cond (bit b (route m) == bit b z) (joined q (Some m)) q) start
            ∙ sym (join_if (joined (queue_of levels to z) (arrival route b (upto leave n) levels from 0 z)) (bit b (route m) == bit b z))
            ∙ sym (ap (λ o. joined (joined (queue_of levels to z) o) (arrival route b (upto leave (x + 1)) levels from 1 z)) a ∙ ap (λ o. joined (joined (queue_of levels to z) (arrival route b (upto leave n) levels from 0 z)) o) d)
        by_bit (suc (suc i)) e h = absurd (omega arith)

    -- and at one of another switch
    elsewhere : (z : ℕ) → z < 64 → (z ≡ port b (bit b z) x → ⊥) → cond (z == y0) (joined (before z) (Some m)) (before z) ≡ behind z
    elsewhere z zs ne =
        ap (λ t. cond t (joined (before z) (Some m)) (before z)) (not_asked (z == y0) refl)
        ∙ ap (λ s. joined (joined (queue_of levels to z) (comes s 0 z)) (arrival route b (upto leave n) levels from 1 z)) (sym (other (port b 0 z) (λ e. ne (in_switch b x z 0 few zs (omega arith) e))))
        ∙ ap (λ s. joined (joined (queue_of levels to z) (arrival route b (upto leave (x + 1)) levels from 0 z)) (comes s 1 z)) (sym (other (port b 1 z) (λ e. ne (in_switch b x z 1 few zs (omega arith) e))))
      where
        not_asked : (s : Bool) → (z == y0) ≡ s → (z == y0) ≡ false
        not_asked false g = g
        not_asked true g =
            let same : z ≡ y0 = eqb-true z y0 g in
            absurd (ne (same ∙ ap (λ i. port b i x) (sym (port_bit b x (bit b (route m)) few small (bit_at-lt (route m) b)) ∙ ap (bit b) (sym same))))

    comes_to : (z : ℕ) → z < 64 → cond (z == y0) (joined (before z) (Some m)) (before z) ≡ behind z
    comes_to z zs = by_test (z == port b (bit b z) x) refl
      where
        by_test : (t : Bool) → (z == port b (bit b z) x) ≡ t → cond (z == y0) (joined (before z) (Some m)) (before z) ≡ behind z
        by_test true e = at_switch z zs (eqb-true z (port b (bit b z) x) e)
        by_test false e = elsewhere z zs (λ same. false_true (sym e ∙ eq-eqb z (port b (bit b z) x) same))

    leaves_from : (z : ℕ) → cond (z == x) (without_head true (without_head (upto leave n x) (queue_of levels from x))) (without_head (upto leave n z) (queue_of levels from z)) ≡ without_head (upto leave (x + 1) z) (queue_of levels from z)
    leaves_from z = by_test (z == x) refl
      where
        by_test : (t : Bool) → (z == x) ≡ t
            → cond t (without_head true (without_head (upto leave n x) (queue_of levels from x))) (without_head (upto leave n z) (queue_of levels from z)) ≡ without_head (upto leave (x + 1) z) (queue_of levels from z)
        by_test true e =
            let same : z ≡ x = eqb-true z x e in
            ap (λ s. without_head true (without_head s (queue_of levels from x))) (upto_later leave n x le)
            ∙ sym (ap (λ s. without_head s (queue_of levels from x)) (upto_here leave x here))
            ∙ ap (λ y. without_head (upto leave (x + 1) y) (queue_of levels from y)) (sym same)
        by_test false e = ap (λ s. without_head s (queue_of levels from z)) (sym (other z (λ same. false_true (sym e ∙ eq-eqb z x same))))

    -- so where the levels hold what has moved below n, they hold it up to x when the head of x has passed
    module _ (now : List (Queues T)) (done : (l z : ℕ) → z < 64 → queue_of now l z ≡ moved route b (upto leave n) from to levels l z) where
      same_head : queue_of now from x ≡ queue_of levels from x
      same_head =
          done from x small ∙ ap (λ t. cond t (without_head (upto leave n x) (queue_of levels from x)) (cond (from == to) (before x) (queue_of levels from x))) (eq-eqb from from refl)
          ∙ ap (λ s. without_head s (queue_of levels from x)) (upto_later leave n x le)

      pub head_there : head (queue_of now from x) ≡ Some m
      head_there = ap head same_head ∙ shown

      pub one_more : (l z : ℕ) → z < 64 → passed route b from to x now l z ≡ moved route b (upto leave (x + 1)) from to levels l z
      one_more l z zs =
          ap (λ o. cond ((l == from) && (z == x)) (without_head true (queue_of now from x)) (cond ((l == to) && (z == label_to route b x o)) (joined (queue_of now to z) o) (queue_of now l z))) head_there
          ∙ by_tests (l == from) (l == to) refl refl
        where
          at_from : queue_of now from z ≡ without_head (upto leave n z) (queue_of levels from z)
          at_from = done from z zs ∙ ap (λ t. cond t (without_head (upto leave n z) (queue_of levels from z)) (cond (from == to) (before z) (queue_of levels from z))) (eq-eqb from from refl)

          not_from : (to == from) ≡ false
          not_from = by_test (to == from) refl
            where
              by_test : (t : Bool) → (to == from) ≡ t → t ≡ false
              by_test false e = refl
              by_test true e = absurd (apart (sym (eqb-true to from e)))

          at_to : queue_of now to z ≡ before z
          at_to =
              done to z zs ∙ ap (λ t. cond t (without_head (upto leave n z) (queue_of levels from z)) (cond (to == to) (before z) (queue_of levels to z))) not_from
              ∙ ap (λ t. cond t (before z) (queue_of levels to z)) (eq-eqb to to refl)

          by_tests : (f t : Bool) → (l == from) ≡ f → (l == to) ≡ t
              → cond (f && (z == x)) (without_head true (queue_of now from x)) (cond (t && (z == y0)) (joined (queue_of now to z) (Some m)) (queue_of now l z))
              ≡ cond f (without_head (upto leave (x + 1) z) (queue_of levels from z)) (cond t (behind z) (queue_of levels l z))
          by_tests true true e c = absurd (apart (sym (eqb-true l from e) ∙ eqb-true l to c))
          by_tests true false e c =
              ap (λ q. cond (z == x) (without_head true q) (queue_of now l z)) (done_from)
              ∙ ap (λ y. cond (z == x) (without_head true (without_head (upto leave n x) (queue_of levels from x))) (queue_of now y z)) (eqb-true l from e)
              ∙ ap (λ q. cond (z == x) (without_head true (without_head (upto leave n x) (queue_of levels from x))) q) at_from
              ∙ leaves_from z
            where
              done_from : queue_of now from x ≡ without_head (upto leave n x) (queue_of levels from x)
              done_from = same_head ∙ sym (ap (λ s. without_head s (queue_of levels from x)) (upto_later leave n x le))
          by_tests false true e c =
              ap (λ q. cond (z == y0) (joined q (Some m)) (queue_of now l z)) at_to
              ∙ ap (λ y. cond (z == y0) (joined (before z) (Some m)) (queue_of now y z)) (eqb-true l to c)
              ∙ ap (λ q. cond (z == y0) (joined (before z) (Some m)) q) at_to
              ∙ comes_to z zs
          by_tests false false e c = done l z zs ∙ ap (λ t. cond t (without_head (upto leave n z) (queue_of levels from z)) (cond (l == to) (before z) (queue_of levels l z))) e ∙ ap (λ t. cond t (before z) (queue_of levels l z)) c

-- a head that has its turn yet is where it was
pub head_still : {T : Type 0} (route : T → ℕ) (b from to : ℕ) (levels now : List (Queues T)) (leave n x : ℕ) → x < 64 → n ≤ x
    → ((l z : ℕ) → z < 64 → queue_of now l z ≡ moved route b (upto leave n) from to levels l z) → queue_of now from x ≡ queue_of levels from x
head_still route b from to levels now leave n x small le done =
    done from x small
    ∙ ap (λ t. cond t (without_head (upto leave n x) (queue_of levels from x))
    (cond (from == to) (joined (joined (queue_of levels to x) (arrival route b (upto leave n) levels from 0 x)) (arrival route b (upto leave n) levels from 1 x)) (queue_of levels from x))) (eq-eqb from from refl)
    ∙ ap (λ s. without_head s (queue_of levels from x)) (upto_later leave n x le)
