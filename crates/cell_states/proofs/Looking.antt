-- Sets of components on the way to a row.
use Rattle.std.proofs.Common.{◌≡◌, ℕ, ◌<◌, ◌≤◌, ◌/◌, ◌%◌, ◌∙◌, ◌⊎◌, inl, inr, sym, ap, refl, arith, Bool, true, false, ◌||◌, ◌&&◌, nat_eq, List, length, replicate, get_or}
use Rattle.std.proofs.Math.ListN.{set}
use Rattle.std.proofs.lemmas.Bool.{true≢false, cases_lt, and_parts}
use Rattle.std.proofs.lemmas.List.{get_or_past, get_or-replicate, length-replicate}
use Rattle.std.proofs.lemmas.List.FromFn.{length-map-range_with_len}
use Rattle.std.proofs.lemmas.Nat.Bits.{bit_at-zero}
use Rattle.cell_marks.specs.Marked.{union, is_set}
use Rattle.cell_marks.specs.Bits.{bits_of}
use Rattle.cell_marks.proofs.Bits.{at_bits}
use Rattle.change_rows.specs.Marks.{is_in, is_one}
use Rattle.cell_states.specs.Filling.{is_awake}
use Rattle.cell_states.proofs.Whole.{marks_joined, long_joined, awake_within}

-- a set of words that are 0 has no member
pub none_in : (set : List ℕ) → ((k : ℕ) → k < length set → get_or set k 0 ≡ 0) → (c : ℕ) → is_in set c ≡ false
none_in set none c = ap (λ w. is_one w (c % 64)) (by_place (cases_lt (c / 64) (length set))) ∙ ap (λ b. nat_eq b 1) (bit_at-zero (c % 64))
  where
    by_place : (c / 64 < length set) ⊎ (length set ≤ c / 64) → get_or set (c / 64) 0 ≡ 0
    by_place (inl h) = none (c / 64) h
    by_place (inr h) = get_or_past set (c / 64) 0 h

pub no_mark : (n c : ℕ) → is_awake (replicate n false) c ≡ false
no_mark n c = by_place (cases_lt c n)
  where
    by_place : (c < n) ⊎ (n ≤ c) → is_awake (replicate n false) c ≡ false
    by_place (inl h) = get_or-replicate n c false false h
    by_place (inr h) = get_or_past (replicate n false) c false (omega (arith, h, length-replicate n false))

-- marks to which those of another row were joined
pub joined_at : (a b new : List Bool) → new ≡ union a b → (d : ℕ) → d < length a → is_awake new d ≡ (is_awake a d || is_awake b d)
joined_at a b new e d h = ap (λ m. is_awake m d) e ∙ marks_joined a b d h

-- marks that were taken away and are then just those of words
module _ (old cleared new : List Bool) (words : List ℕ) (empty : cleared ≡ replicate (length old) false) (joined : new ≡ union cleared (bits_of words (length cleared))) where
  long_cleared : length cleared ≡ length old
  long_cleared = ap length empty ∙ length-replicate (length old) false

  pub long_of : length new ≡ length old
  long_of = long_joined cleared new words joined ∙ long_cleared

  pub marks_of : (d : ℕ) → d < length old → is_awake new d ≡ is_in words d
  marks_of d h =
      let k : d < length cleared = omega (arith, h, long_cleared) in
      ap (λ m. is_awake m d) joined ∙ marks_joined cleared (bits_of words (length cleared)) d k
      ∙ ap (λ b. b || is_awake (bits_of words (length cleared)) d) (ap (λ m. is_awake m d) empty ∙ no_mark (length old) d)
      ∙ at_bits words (length cleared) d k

-- where one is so, the other is
pub unless : (a b : Bool) → (a ≡ true → b ≡ true) → b ≡ false → a ≡ false
unless true b more e = absurd (true≢false (sym (more refl) ∙ e))
unless false b more e = refl

-- what isn't left of two marks, of which the other is set
pub not_left : (a b r : Bool) → r ≡ (a && b) → b ≡ true → r ≡ false → a ≡ false
not_left true b r e f n = absurd (true≢false (sym f ∙ sym e ∙ n))
not_left false b r e f n = refl

-- marks of which those of a set stayed
module _ (joined kept set : List Bool) (len : length kept ≡ length joined) (marks : (c : ℕ) → c < length joined → is_awake kept c ≡ (is_awake joined c && is_awake set c)) where
  pub part_of : (c : ℕ) → is_awake kept c ≡ true → is_awake set c ≡ true
  part_of c a = let h : c < length joined = omega (arith, awake_within kept c a, len) in (and_parts (is_awake joined c) (is_awake set c) (sym (marks c h) ∙ a)).1

  pub left_of : (c : ℕ) → c < length joined → is_awake set c ≡ true → is_awake kept c ≡ false → is_awake joined c ≡ false
  left_of c h s a = not_left (is_awake joined c) (is_awake set c) (is_awake kept c) (marks c h) s a

-- what is so of those that were reached, and of those that no mark is left of
pub by_reached : {X : Type 0} (next d : ℕ) (marks : List Bool) (x y : X) → (d < next → x ≡ y) → (next ≤ d → is_awake marks d ≡ false) → (is_awake marks d ≡ false → x ≡ y) → x ≡ y
by_reached next d marks x y reached none other = by_place (cases_lt d next)
  where
    by_place : (d < next) ⊎ (next ≤ d) → x ≡ y
    by_place (inl h) = reached h
    by_place (inr h) = other (none h)

pub long_union : (a b new : List Bool) → new ≡ union a b → length new ≡ length a
long_union a b new e = ap length e ∙ length-map-range_with_len (λ c. is_set a c || is_set b c) 0 (length a)

-- marks that were taken away, and then those of another row
module _ (old cleared new other : List Bool) (empty : cleared ≡ replicate (length old) false) (joined : new ≡ union cleared other) where
  pub long_none : length cleared ≡ length old
  long_none = ap length empty ∙ length-replicate (length old) false

  pub long_only : length new ≡ length old
  long_only = long_union cleared other new joined ∙ long_none

  pub only_at : (d : ℕ) → d < length old → is_awake new d ≡ is_awake other d
  only_at d h =
      joined_at cleared other new joined d (omega (arith, h, long_none))
      ∙ ap (λ b. b || is_awake other d) (ap (λ m. is_awake m d) empty ∙ no_mark (length old) d)
