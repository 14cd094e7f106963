-- Sets of components, 64 in a word.
use Rattle.std.proofs.Common.{◌≡◌, ℕ, ◌+◌, ◌/◌, ◌%◌, ◌<◌, ◌≤◌, ◌∙◌, ◌⊎◌, inl, inr, sym, ap, refl, arith, true, false, List, length, get_or, take, None}
use Rattle.std.proofs.Math.ListN.{set}
use Rattle.std.specs.Int.{bit_at}
use Rattle.std.proofs.lemmas.Nat.Bits.{bit_at-zero, bit_at_mask_inside}
use Rattle.std.proofs.lemmas.Bool.{cases_eq, cases_lt, eq-eqb, ne_eqb, false≢true}
use Rattle.std.proofs.lemmas.List.{get_or-set_same, get_or-set_other, get_or_past}
use Rattle.change_rows.specs.Marks.{is_one, is_in}
use Rattle.change_rows.specs.Cells.{Held, found, component_at}
use Rattle.change_rows.proofs.Laying.{rest_found}

pub zero_bit : (word k : ℕ) → bit_at word k ≡ 0 → is_one word k ≡ false
zero_bit word k e = ne_eqb (bit_at word k) 1 (λ q. absurd (omega (arith, e, q)))

pub no_one : (k : ℕ) → is_one 0 k ≡ false
no_one k = zero_bit 0 k (bit_at-zero k)

-- the members of one word
pub in_word : (set : List ℕ) (c w word : ℕ) → c / 64 ≡ w → get_or set w 0 ≡ word → is_in set c ≡ is_one word (c % 64)
in_word set c w word e f = ap (λ (x : ℕ). is_one (get_or set x 0) (c % 64)) e ∙ ap (λ (x : ℕ). is_one x (c % 64)) f

pub in_none : (set : List ℕ) (c w : ℕ) → c / 64 ≡ w → get_or set w 0 ≡ 0 → is_in set c ≡ false
in_none set c w e f = in_word set c w 0 e f ∙ no_one (c % 64)

pub in_past : (set : List ℕ) (c : ℕ) → length set ≤ c / 64 → is_in set c ≡ false
in_past set c h = in_none set c (c / 64) refl (get_or_past set (c / 64) 0 h)

-- a member has a word
pub in_there : (set : List ℕ) (c : ℕ) → is_in set c ≡ true → c / 64 < length set
in_there set c e = by_place (cases_lt (c / 64) (length set))
  where
    by_place : (c / 64 < length set) ⊎ (length set ≤ c / 64) → c / 64 < length set
    by_place (inl l) = l
    by_place (inr l) = absurd (false≢true (sym (in_past set c l) ∙ e))

-- a word of a set is another one
module _ (set1 : List ℕ) (c word : ℕ) (there : c / 64 < length set1) where
  pub put_same : (d : ℕ) → d / 64 ≡ c / 64 → is_in (set set1 (c / 64) word) d ≡ is_one word (d % 64)
  put_same d e = in_word (set set1 (c / 64) word) d (c / 64) word e (get_or-set_same set1 (c / 64) word 0 there)

  pub put_other : (d : ℕ) → (d / 64 ≡ c / 64 → ⊥) → is_in (set set1 (c / 64) word) d ≡ is_in set1 d
  put_other d n = ap (λ (x : ℕ). is_one x (d % 64)) (get_or-set_other set1 (c / 64) (d / 64) word 0 n)

  pub added_others : ((i : ℕ) → (i ≡ c % 64 → ⊥) → is_one word i ≡ is_one (get_or set1 (c / 64) 0) i) → (d : ℕ) → (d ≡ c → ⊥) → is_in (set set1 (c / 64) word) d ≡ is_in set1 d
  added_others others d n = by_word (cases_eq (d / 64) (c / 64))
    where
      by_word : (d / 64 ≡ c / 64) ⊎ (d / 64 ≡ c / 64 → ⊥) → is_in (set set1 (c / 64) word) d ≡ is_in set1 d
      by_word (inl e) = put_same d e ∙ others (d % 64) (λ q. n (omega (arith, e, q))) ∙ sym (in_word set1 d (c / 64) (get_or set1 (c / 64) 0) e refl)
      by_word (inr m) = put_other d m

pub all_ones : (k : ℕ) → k < 64 → is_one 18446744073709551615 k ≡ true
all_ones k h = eq-eqb (bit_at 18446744073709551615 k) 1 (bit_at_mask_inside 0 64 k (omega arith) h)

-- one cell more, of which it is known that it's none of a component
pub none_more : (cells : List Held) (i c d : ℕ) → i < length cells → c ≡ component_at cells i → (d ≡ c → ⊥) → found (take i cells) d ≡ None → found (take (i + 1) cells) d ≡ None
none_more cells i c d h is n e = rest_found cells i d h (λ q. n (q ∙ sym is)) ∙ e

-- a bit more in a word of marks
module _ (cells : List Held) (i c w word word1 : ℕ) (h : i < length cells) (is : c ≡ component_at cells i) (here : c / 64 ≡ w) (set_is : is_one word1 (c % 64) ≡ true) (others : (k : ℕ) → (k ≡ c % 64 → ⊥) → is_one word1 k ≡ is_one word k) where
  not_set : (k : ℕ) → is_one word1 k ≡ false → k ≡ c % 64 → ⊥
  not_set k e q = false≢true (sym e ∙ ap (is_one word1) q ∙ set_is)

  pub bit_kept : (k : ℕ) → is_one word1 k ≡ false → is_one word k ≡ false
  bit_kept k e = sym (others k (not_set k e)) ∙ e

  pub bit_cells : ((d : ℕ) → d / 64 ≡ w → is_one word (d % 64) ≡ false → found (take i cells) d ≡ None) → (d : ℕ) → d / 64 ≡ w → is_one word1 (d % 64) ≡ false → found (take (i + 1) cells) d ≡ None
  bit_cells before d q e = none_more cells i c d h is (λ r. not_set (d % 64) e (ap (λ (k : ℕ). k % 64) r)) (before d q (bit_kept (d % 64) e))
