-- Marks that are taken from a word of 64, the lowest first.
use Rattle.std.proofs.Common.{◌≡◌, ℕ, ◌+◌, ◌-◌, ◌<◌, ◌≤◌, ◌∙◌, ◌⊎◌, inl, inr, sym, ap, subst, arith, Bool, false, eqb, eq-eqb, ◌||◌, List, [], length}
use lib.Bits.{bit_and}
use Rattle.std.specs.Int.{bit_at}
use Rattle.std.proofs.Math.Bool.{or-false}
use Rattle.std.proofs.lemmas.Bool.{cases_lt}
use Rattle.std.proofs.lemmas.List.{get_or_past}
use Rattle.std.proofs.lemmas.Nat.Bits.{bit_at-zero}
use Rattle.cell_marks.specs.Marked.{is_set, row_at, any_marks, IsFirstFrom}
use Rattle.cell_marks.proofs.FirstBit.{lowest_gone, others_left}
use Rattle.cell_marks.proofs.Added.{any_over, any_more}

module _ (marks : List Bool) (first : ℕ) where
  -- the bits that are left of a word, once the marks from `first` on and before `from` were taken
  pub record AreLeft (from rest : ℕ) : Type 0 where
    pub start : first ≤ from
    pub end : from ≤ first + 64
    pub low : (i : ℕ) → first + i < from → bit_at rest i ≡ 0
    pub high : (i : ℕ) → i < 64 → from ≤ first + i → first + i < length marks → eqb (bit_at rest i) 1 ≡ is_set marks (first + i)

  pub all_left : (word : ℕ) → ((i : ℕ) → i < 64 → first + i < length marks → eqb (bit_at word i) 1 ≡ is_set marks (first + i)) → AreLeft first word
  all_left word bits = record { start = omega arith; end = omega arith; low = λ i h. absurd (omega (arith, h)); high = λ i h above there. bits i h there }

  module _ (from rest : ℕ) (left : AreLeft from rest) where
    -- nothing is marked before the lowest bit that is left
    quiet : (z : ℕ) → z ≤ 64 → ((i : ℕ) → i < z → bit_at rest i ≡ 0) → (c : ℕ) → from ≤ c → c < first + z → is_set marks c ≡ false
    quiet z small none c above below = by_place (cases_lt c (length marks))
      where
        in_word : (i : ℕ) → first + i ≡ c → c < length marks → is_set marks c ≡ false
        in_word i e h =
            subst (λ d. is_set marks d ≡ false) e
            (sym (left.high i (omega (arith, e, below, small)) (omega (arith, e, above)) (omega (arith, e, h))) ∙ ap (λ b. eqb b 1) (none i (omega (arith, e, below))))

        by_place : (c < length marks) ⊎ (length marks ≤ c) → is_set marks c ≡ false
        by_place (inl h) = in_word (c - first) (omega (arith, left.start, above)) h
        by_place (inr h) = get_or_past marks c false h

    pub none_left : rest ≡ 0 → (c : ℕ) → from ≤ c → c < first + 64 → is_set marks c ≡ false
    none_left none = quiet 64 (omega arith) (λ i h. ap (λ n. bit_at n i) none ∙ bit_at-zero i)

    pub all_taken : rest ≡ 0 → (rows : List (List Bool)) (k : ℕ) → any_marks marks rows k (first + 64) ≡ any_marks marks rows k from
    all_taken none rows k = any_over marks rows k from (first + 64) left.end (none_left none)

    module _ (z : ℕ) (small : z < 64) (one : bit_at rest z ≡ 1) (none : (i : ℕ) → i < z → bit_at rest i ≡ 0) where
      later : from ≤ first + z
      later = by_place (cases_lt (first + z) from)
        where
          by_place : (first + z < from) ⊎ (from ≤ first + z) → from ≤ first + z
          by_place (inl h) = absurd (omega (arith, one, left.low z h))
          by_place (inr h) = h

      -- the lowest bit is taken
      pub less_left : AreLeft (first + z + 1) (bit_and rest (rest - 1))
      less_left = record {
        start = omega arith;
        end = omega (arith, small);
        low = λ i h. by_place i h (cases_lt i z);
        high = λ i h above there. ap (λ b. eqb b 1) (others_left rest z one none i (λ e. absurd (omega (arith, e, above)))) ∙ left.high i h (omega (arith, later, above)) there;
      }
        where
          by_place : (i : ℕ) → first + i < first + z + 1 → (i < z) ⊎ (z ≤ i) → bit_at (bit_and rest (rest - 1)) i ≡ 0
          by_place i h (inl l) = others_left rest z one none i (λ e. absurd (omega (arith, e, l))) ∙ none i l
          by_place i h (inr l) = let e : i ≡ z = omega (arith, h, l) in ap (bit_at (bit_and rest (rest - 1))) e ∙ lowest_gone rest z one none

      -- it is that of the first marked component, where it isn't behind the last
      pub first_left : first + z < length marks → IsFirstFrom marks from (first + z)
      first_left there = (later, sym (left.high z small later there) ∙ eq-eqb (bit_at rest z) 1 one, quiet z (omega (arith, small)) none)

      pub none_after : length marks ≤ first + z → (c : ℕ) → from ≤ c → is_set marks c ≡ false
      none_after past c above = by_place (cases_lt c (first + z))
        where
          by_place : (c < first + z) ⊎ (first + z ≤ c) → is_set marks c ≡ false
          by_place (inl h) = quiet z (omega (arith, small)) none c above h
          by_place (inr h) = get_or_past marks c false (omega (arith, past, h))

      pub one_taken : (rows : List (List Bool)) (k : ℕ) → length rows ≡ length marks → (any_marks marks rows k from || is_set (row_at rows (first + z)) k) ≡ any_marks marks rows k (first + z + 1)
      one_taken rows k alike = by_place (cases_lt (first + z) (length marks))
        where
          c : ℕ
          c = first + z

          by_place : (c < length marks) ⊎ (length marks ≤ c) → (any_marks marks rows k from || is_set (row_at rows c) k) ≡ any_marks marks rows k (c + 1)
          by_place (inl there) = let found = first_left there in any_more marks rows k from c found.0 found.1 found.2
          by_place (inr past) =
              ap (λ r. any_marks marks rows k from || is_set r k) (get_or_past rows c [] (omega (arith, past, alike)))
              ∙ or-false (any_marks marks rows k from)
              ∙ sym (any_over marks rows k from (c + 1) (omega (arith, later)) (λ d above below. none_after past d above))
