-- Words of which one has just the bits of two others.
use Rattle.std.proofs.Common.{◌≡◌, ℕ, zero, suc, ◌+◌, ◌-◌, ◌*◌, ◌%◌, ◌^◌, ◌<◌, ◌≤◌, ◌∙◌, sym, ap, refl, arith, max, min, subst, Bool, true, false, cond, eqb, ◌||◌, ◌⊎◌, inl, inr, List, length, get_or, w64}
use Rattle.std.specs.Int.{bit_at, trailing_zeros}
use Rattle.std.specs.Int.Bits.{bit_or, bit_xor}
use Rattle.std.specs.Int.Count.{trailing_of_zero}
use Rattle.std.proofs.lemmas.Bool.{cases_lt, cases_eq}
use Rattle.std.proofs.lemmas.Nat.Bits.{bit_at_or, bit_at_xor, bit_at-lt, bit_at-zero, bit_at-trailing_zeros}
use Rattle.cell_marks.specs.Bits.{bit_in, bits_of}
use Rattle.cell_marks.specs.Marked.{is_set}
use Rattle.cell_marks.proofs.Bits.{bit_of_word, length_bits, at_bits}

-- whether a bit is set
abbrev pub is_one : ℕ → ℕ → Bool
is_one n i = eqb (bit_at n i) 1

-- a bit as a number
abbrev pub bit : Bool → ℕ
bit b = cond b 1 0

-- the bits in which the union of two words isn't a third
abbrev pub unlike : ℕ → ℕ → ℕ → ℕ
unlike a b w = bit_xor (bit_or a b) w

pub of_bit : (x : ℕ) → x < 2 → x ≡ bit (eqb x 1)
of_bit zero h = refl
of_bit (suc zero) h = refl
of_bit (suc (suc x)) h = absurd (omega arith)

alike : (p q r : Bool) → (max (bit p) (bit q) + bit r) % 2 ≡ 0 → (p || q) ≡ r
alike true true true e = refl
alike true false true e = refl
alike false true true e = refl
alike false false false e = refl
alike true true false e = absurd (omega (arith, e))
alike true false false e = absurd (omega (arith, e))
alike false true false e = absurd (omega (arith, e))
alike false false true e = absurd (omega (arith, e))

even : (p q : Bool) → (max (bit p) (bit q) + bit (p || q)) % 2 ≡ 0
even true true = refl
even true false = refl
even false true = refl
even false false = refl

unlike_bit : (a b w i : ℕ) → bit_at (unlike a b w) i ≡ (max (bit (is_one a i)) (bit (is_one b i)) + bit (is_one w i)) % 2
unlike_bit a b w i =
    bit_at_xor (bit_or a b) w i
    ∙ ap (λ u. (u + bit_at w i) % 2) (bit_at_or a b i)
    ∙ ap (λ u. (max u (bit_at b i) + bit_at w i) % 2) (of_bit (bit_at a i) (bit_at-lt a i))
    ∙ ap (λ u. (max (bit (is_one a i)) u + bit_at w i) % 2) (of_bit (bit_at b i) (bit_at-lt b i))
    ∙ ap (λ u. (max (bit (is_one a i)) (bit (is_one b i)) + u) % 2) (of_bit (bit_at w i) (bit_at-lt w i))

alike_at : (a b w i : ℕ) → bit_at (unlike a b w) i ≡ 0 → (is_one a i || is_one b i) ≡ is_one w i
alike_at a b w i e = alike (is_one a i) (is_one b i) (is_one w i) (sym (unlike_bit a b w i) ∙ e)

none_at : (a b w i : ℕ) → (is_one a i || is_one b i) ≡ is_one w i → bit_at (unlike a b w) i ≡ 0
none_at a b w i e = unlike_bit a b w i ∙ ap (λ r. (max (bit (is_one a i)) (bit (is_one b i)) + bit r) % 2) (sym e) ∙ even (is_one a i) (is_one b i)

-- below the first bit in which they aren't alike they are alike
pub union_below : (a b w n : ℕ) → unlike a b w < 2 ^ 64 → n ≤ trailing_zeros w64 (unlike a b w) → (i : ℕ) → i < n → (is_one a i || is_one b i) ≡ is_one w i
union_below a b w n small h i low = alike_at a b w i (by_some (cases_eq (unlike a b w) 0))
  where
    by_some : (unlike a b w ≡ 0) ⊎ (unlike a b w ≡ 0 → ⊥) → bit_at (unlike a b w) i ≡ 0
    by_some (inl e) = ap (λ m. bit_at m i) e ∙ bit_at-zero i
    by_some (inr ne) = (bit_at-trailing_zeros w64 (unlike a b w) (omega (arith, ne)) small).2 i (omega arith)

-- where they are alike below a place, none in which they aren't is below it
pub union_up_to : (a b w n : ℕ) → unlike a b w < 2 ^ 64 → n ≤ 64 → ((i : ℕ) → i < n → (is_one a i || is_one b i) ≡ is_one w i) → n ≤ trailing_zeros w64 (unlike a b w)
union_up_to a b w n small within each = by_some (cases_eq (unlike a b w) 0)
  where
    at_first : 0 < unlike a b w → (trailing_zeros w64 (unlike a b w) < n) ⊎ (n ≤ trailing_zeros w64 (unlike a b w)) → n ≤ trailing_zeros w64 (unlike a b w)
    at_first some (inl low) =
        let one : bit_at (unlike a b w) (trailing_zeros w64 (unlike a b w)) ≡ 1 = (bit_at-trailing_zeros w64 (unlike a b w) some small).1 in
        absurd (omega (arith, one, none_at a b w _ (each _ low)))
    at_first some (inr h) = h

    by_some : (unlike a b w ≡ 0) ⊎ (unlike a b w ≡ 0 → ⊥) → n ≤ trailing_zeros w64 (unlike a b w)
    by_some (inl e) =
        let all : trailing_zeros w64 0 ≡ 64 = trailing_of_zero 64 in
        omega (arith, ap (trailing_zeros w64) e)
    by_some (inr ne) = at_first (omega (arith, ne)) (cases_lt _ n)

-- where the first n bits are alike, those of each word are
pub union_in_word : (one other union : List ℕ) (n k m : ℕ) → m ≤ n - 64 * k → m ≤ 64 → ((c : ℕ) → c < n → (bit_in one c || bit_in other c) ≡ bit_in union c) → (i : ℕ) → i < m → (is_one (get_or one k 0) i || is_one (get_or other k 0) i) ≡ is_one (get_or union k 0) i
union_in_word one other union n k m left within each i h =
    let small : i < 64 = omega arith in
    ap (λ u. u || is_one (get_or other k 0) i) (sym (bit_of_word one k i small))
    ∙ ap (λ u. bit_in one (64 * k + i) || u) (sym (bit_of_word other k i small))
    ∙ each (64 * k + i) (omega arith)
    ∙ bit_of_word union k i small

-- the first bits are alike as far as those of one word more
pub union_more : (one other union : List ℕ) (n k m : ℕ) → m ≡ min (n - 64 * k) 64 → ((i : ℕ) → i < m → (is_one (get_or one k 0) i || is_one (get_or other k 0) i) ≡ is_one (get_or union k 0) i) → ((c : ℕ) → c < 64 * k → c < n → (bit_in one c || bit_in other c) ≡ bit_in union c) → (c : ℕ) → c < 64 * (k + 1) → c < n → (bit_in one c || bit_in other c) ≡ bit_in union c
union_more one other union n k m span here before c h low = by_place (cases_lt c (64 * k))
  where
    in_word : (i : ℕ) → i < m → i < 64 → 64 * k + i ≡ c → (bit_in one c || bit_in other c) ≡ bit_in union c
    in_word i l small e =
        subst (λ u. (bit_in one u || bit_in other u) ≡ bit_in union u) e
        (ap (λ u. u || bit_in other (64 * k + i)) (bit_of_word one k i small)
        ∙ ap (λ u. is_one (get_or one k 0) i || u) (bit_of_word other k i small)
        ∙ here i l
        ∙ sym (bit_of_word union k i small))

    by_place : (c < 64 * k) ⊎ (64 * k ≤ c) → (bit_in one c || bit_in other c) ≡ bit_in union c
    by_place (inl l) = before c l low
    by_place (inr l) = in_word (c - 64 * k) (omega (arith, l, h, low, span)) (omega (arith, l, h)) (omega (arith, l))

-- words that show rows
pub len_of : (words : List ℕ) (n : ℕ) (row : List Bool) → bits_of words n ≡ row → length row ≡ n
len_of words n row e = sym (ap length e) ∙ length_bits words n

pub shown : (words seen : List ℕ) (n m : ℕ) (row : List Bool) → seen ≡ words → m ≡ n → bits_of words n ≡ row → bits_of seen m ≡ row
shown words seen n m row e f g = ap (λ ws. bits_of ws m) e ∙ ap (bits_of words) f ∙ g

pub bit_of_row : (words : List ℕ) (n : ℕ) (row : List Bool) → bits_of words n ≡ row → (c : ℕ) → c < n → is_set row c ≡ bit_in words c
bit_of_row words n row e c h = ap (λ r. is_set r c) (sym e) ∙ at_bits words n c h

-- the rows are alike where the first bits of their words are
pub union_of_rows : (xs ys zs : List ℕ) (n : ℕ) (a b w : List Bool) → bits_of xs n ≡ a → bits_of ys n ≡ b → bits_of zs n ≡ w → ((c : ℕ) → c < n → (bit_in xs c || bit_in ys c) ≡ bit_in zs c) → (c : ℕ) → c < length w → (is_set a c || is_set b c) ≡ is_set w c
union_of_rows xs ys zs n a b w ea eb ew each c h =
    let low : c < n = omega (arith, len_of zs n w ew) in
    ap (λ u. u || is_set b c) (bit_of_row xs n a ea c low)
    ∙ ap (λ u. bit_in xs c || u) (bit_of_row ys n b eb c low)
    ∙ each c low
    ∙ sym (bit_of_row zs n w ew c low)

pub union_of_words : (xs ys zs : List ℕ) (n : ℕ) (a b w : List Bool) → bits_of xs n ≡ a → bits_of ys n ≡ b → bits_of zs n ≡ w → ((c : ℕ) → c < length w → (is_set a c || is_set b c) ≡ is_set w c) → (c : ℕ) → c < n → (bit_in xs c || bit_in ys c) ≡ bit_in zs c
union_of_words xs ys zs n a b w ea eb ew each c low =
    ap (λ u. u || bit_in ys c) (sym (bit_of_row xs n a ea c low))
    ∙ ap (λ u. is_set a c || u) (sym (bit_of_row ys n b eb c low))
    ∙ each c (omega (arith, len_of zs n w ew))
    ∙ bit_of_row zs n w ew c low
