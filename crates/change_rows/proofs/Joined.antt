-- Sets that are made of others, a word at a time.
use Rattle.std.proofs.Common.{◌≡◌, ℕ, ◌+◌, ◌-◌, ◌/◌, ◌%◌, ◌^◌, ◌<◌, ◌≤◌, ◌∙◌, ◌⊎◌, inl, inr, sym, ap, refl, arith, w64, Bool, true, false, ◌&&◌, ◌||◌, not, min, max, List, length, get_or, eqb}
use Rattle.std.specs.Int.{bit_at}
use Rattle.std.specs.Int.Bits.{bit_and, bit_or, bit_xor}
use Rattle.std.proofs.Math.ListN.{set}
use Rattle.std.proofs.lemmas.Bool.{cases_eq, eq-eqb, false≢true}
use Rattle.std.proofs.lemmas.List.{get_or-set_same, get_or-set_other}
use Rattle.std.proofs.lemmas.Nat.Bits.{bit_at_and, bit_at_or, bit_at_xor, bit_at_not, bit_at-lt}
use Rattle.change_rows.specs.Marks.{is_one, is_in}
use Rattle.change_rows.proofs.Members.{in_word}

-- a word more of a set is what it should be, and the words behind it are as they were
module _ (set0 set1 : List ℕ) (w word : ℕ) (there : w < length set1) where
  at_word : (c : ℕ) → c / 64 ≡ w → is_in (set set1 w word) c ≡ is_one word (c % 64)
  at_word c e = in_word (set set1 w word) c w word e (get_or-set_same set1 w word 0 there)

  at_other : (c : ℕ) → (c / 64 ≡ w → ⊥) → is_in (set set1 w word) c ≡ is_in set1 c
  at_other c n = ap (λ (x : ℕ). is_one x (c % 64)) (get_or-set_other set1 w (c / 64) word 0 n)

  pub word_done : (f : ℕ → Bool) → ((c : ℕ) → c / 64 < w → is_in set1 c ≡ f c) → ((c : ℕ) → c / 64 ≡ w → is_one word (c % 64) ≡ f c) → (c : ℕ) → c / 64 < w + 1 → is_in (set set1 w word) c ≡ f c
  word_done f done here c h = by_place (cases_eq (c / 64) w)
    where
      by_place : (c / 64 ≡ w) ⊎ (c / 64 ≡ w → ⊥) → is_in (set set1 w word) c ≡ f c
      by_place (inl e) = at_word c e ∙ here c e
      by_place (inr n) = at_other c n ∙ done c (omega (arith, h, n))

  pub word_rest : ((c : ℕ) → w ≤ c / 64 → is_in set1 c ≡ is_in set0 c) → (c : ℕ) → w + 1 ≤ c / 64 → is_in (set set1 w word) c ≡ is_in set0 c
  word_rest rest c h = at_other c (λ e. absurd (omega (arith, h, e))) ∙ rest c (omega (arith, h))

small : (x : ℕ) → x < 2 → (x ≡ 0) ⊎ (x ≡ 1)
small x h = by_place (cases_eq x 0)
  where
    by_place : (x ≡ 0) ⊎ (x ≡ 0 → ⊥) → (x ≡ 0) ⊎ (x ≡ 1)
    by_place (inl e) = inl e
    by_place (inr n) = inr (omega (arith, h, n))

both : (x y : ℕ) → (x ≡ 0) ⊎ (x ≡ 1) → (y ≡ 0) ⊎ (y ≡ 1) → eqb (min x y) 1 ≡ (eqb x 1 && eqb y 1)
both x y (inl e) (inl f) = rw e (rw f refl)
both x y (inl e) (inr f) = rw e (rw f refl)
both x y (inr e) (inl f) = rw e (rw f refl)
both x y (inr e) (inr f) = rw e (rw f refl)

either : (x y : ℕ) → (x ≡ 0) ⊎ (x ≡ 1) → (y ≡ 0) ⊎ (y ≡ 1) → eqb (max x y) 1 ≡ (eqb x 1 || eqb y 1)
either x y (inl e) (inl f) = rw e (rw f refl)
either x y (inl e) (inr f) = rw e (rw f refl)
either x y (inr e) (inl f) = rw e (rw f refl)
either x y (inr e) (inr f) = rw e (rw f refl)

turned : (y : ℕ) → (y ≡ 0) ⊎ (y ≡ 1) → eqb (1 - y) 1 ≡ not (eqb y 1)
turned y (inl f) = rw f refl
turned y (inr f) = rw f refl

pub one_and : (a b k : ℕ) → is_one (bit_and a b) k ≡ (is_one a k && is_one b k)
one_and a b k = ap (λ (x : ℕ). eqb x 1) (bit_at_and a b k) ∙ both (bit_at a k) (bit_at b k) (small _ (bit_at-lt a k)) (small _ (bit_at-lt b k))

pub one_or : (a b k : ℕ) → is_one (bit_or a b) k ≡ (is_one a k || is_one b k)
one_or a b k = ap (λ (x : ℕ). eqb x 1) (bit_at_or a b k) ∙ either (bit_at a k) (bit_at b k) (small _ (bit_at-lt a k)) (small _ (bit_at-lt b k))

pub one_not : (b k : ℕ) → b < 2 ^ 64 → k < 64 → is_one (18446744073709551615 - b) k ≡ not (is_one b k)
one_not b k fits h = ap (λ (x : ℕ). eqb x 1) (bit_at_not w64 b k fits h) ∙ turned (bit_at b k) (small _ (bit_at-lt b k))

-- the word at a place of a set, read by whoever names it
pub one_at : (set1 : List ℕ) (c w word : ℕ) → c / 64 ≡ w → word ≡ get_or set1 w 0 → is_one word (c % 64) ≡ is_in set1 c
one_at set1 c w word e f = sym (in_word set1 c w word e (sym f))

module _ (set0 set1 other : List ℕ) (w word : ℕ) (rest : (c : ℕ) → w ≤ c / 64 → is_in set1 c ≡ is_in set0 c) (is : word ≡ get_or other w 0) where
  own : (c : ℕ) → c / 64 ≡ w → is_one (get_or set1 w 0) (c % 64) ≡ is_in set0 c
  own c e = one_at set1 c w (get_or set1 w 0) e refl ∙ rest c (omega (arith, e))

  pub word_or : (c : ℕ) → c / 64 ≡ w → is_one (bit_or (get_or set1 w 0) word) (c % 64) ≡ (is_in set0 c || is_in other c)
  word_or c e =
      one_or (get_or set1 w 0) word (c % 64)
      ∙ ap (λ (b : Bool). b || is_one word (c % 64)) (own c e) ∙ ap (λ (b : Bool). is_in set0 c || b) (one_at other c w word e is)

  pub word_and : (c : ℕ) → c / 64 ≡ w → is_one (bit_and (get_or set1 w 0) word) (c % 64) ≡ (is_in set0 c && is_in other c)
  word_and c e =
      one_and (get_or set1 w 0) word (c % 64)
      ∙ ap (λ (b : Bool). b && is_one word (c % 64)) (own c e) ∙ ap (λ (b : Bool). is_in set0 c && b) (one_at other c w word e is)

  pub word_minus : word < 2 ^ 64 → (c : ℕ) → c / 64 ≡ w → is_one (bit_and (get_or set1 w 0) (18446744073709551615 - word)) (c % 64) ≡ (is_in set0 c && not (is_in other c))
  word_minus fits c e =
      one_and (get_or set1 w 0) (18446744073709551615 - word) (c % 64)
      ∙ ap (λ (b : Bool). b && is_one (18446744073709551615 - word) (c % 64)) (own c e)
      ∙ ap (λ (b : Bool). is_in set0 c && b) (one_not word (c % 64) fits (omega arith) ∙ ap not (one_at other c w word e is))

  pub word_left : get_or set1 w 0 < 2 ^ 64 → (c : ℕ) → c / 64 ≡ w → is_one (bit_and (18446744073709551615 - get_or set1 w 0) word) (c % 64) ≡ (not (is_in set0 c) && is_in other c)
  word_left fits c e =
      one_and (18446744073709551615 - get_or set1 w 0) word (c % 64)
      ∙ ap (λ (b : Bool). b && is_one word (c % 64)) (one_not (get_or set1 w 0) (c % 64) fits (omega arith) ∙ ap not (own c e))
      ∙ ap (λ (b : Bool). not (is_in set0 c) && b) (one_at other c w word e is)

-- a word that has the bits of one that differ from those of another, or that a third has, too
pub one_xor : (a b k : ℕ) → is_one (bit_xor a b) k ≡ false → is_one a k ≡ is_one b k
one_xor a b k e = by_bits (small _ (bit_at-lt a k)) (small _ (bit_at-lt b k))
  where
    not_one : (bit_at a k + bit_at b k) % 2 ≡ 1 → ⊥
    not_one q = false≢true (sym e ∙ eq-eqb (bit_at (bit_xor a b) k) 1 (bit_at_xor a b k ∙ q))

    by_bits : (bit_at a k ≡ 0) ⊎ (bit_at a k ≡ 1) → (bit_at b k ≡ 0) ⊎ (bit_at b k ≡ 1) → is_one a k ≡ is_one b k
    by_bits (inl p) (inl q) = ap (λ (x : ℕ). eqb x 1) (p ∙ sym q)
    by_bits (inl p) (inr q) = absurd (not_one (omega (arith, p, q)))
    by_bits (inr p) (inl q) = absurd (not_one (omega (arith, p, q)))
    by_bits (inr p) (inr q) = ap (λ (x : ℕ). eqb x 1) (p ∙ sym q)

neither : (a b : Bool) → (a || b) ≡ false → (a ≡ false) × (b ≡ false)
neither true b e = absurd (false≢true (sym e))
neither false b e = (refl, e)

not_both : (a b : Bool) → (a && b) ≡ false → a ≡ true → b ≡ false
not_both true b e f = e
not_both false b e f = absurd (false≢true f)

module _ (one other but : List ℕ) (w word word1 word2 : ℕ) (is : word ≡ get_or one w 0) (is1 : word1 ≡ get_or other w 0) (is2 : word2 ≡ get_or but w 0) (c : ℕ) (here : c / 64 ≡ w) (e : is_one (bit_or (bit_xor word word1) (bit_and word word2)) (c % 64) ≡ false) where
  parts : (is_one (bit_xor word word1) (c % 64) ≡ false) × (is_one (bit_and word word2) (c % 64) ≡ false)
  parts = neither _ _ (sym (one_or (bit_xor word word1) (bit_and word word2) (c % 64)) ∙ e)

  pub same_one : is_in one c ≡ is_in other c
  same_one = sym (one_at one c w word here is) ∙ one_xor word word1 (c % 64) parts.0 ∙ one_at other c w word1 here is1

  pub none_but : is_in one c ≡ true → is_in but c ≡ false
  none_but i = sym (one_at but c w word2 here is2) ∙ not_both (is_one word (c % 64)) (is_one word2 (c % 64)) (sym (one_and word word2 (c % 64)) ∙ parts.1) (one_at one c w word here is ∙ i)
