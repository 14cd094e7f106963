-- Words to which the bits of others are added.
use Rattle.std.proofs.Common.{eq-eqb, ◌≡◌, ℕ, zero, suc, ◌+◌, ◌-◌, ◌*◌, ◌/◌, ◌%◌, ◌^◌, ◌<◌, ◌≤◌, ◌∙◌, sym, ap, refl, subst, arith, min, max, w64, Bool, true, false, eqb, ◌||◌, ◌&&◌, ◌⊎◌, inl, inr, List, length, get_or, take}
use Rattle.std.proofs.Math.ListN.{set}
use Rattle.std.specs.Int.{bit_at}
use Rattle.std.specs.Int.Bits.{bit_and, bit_or}
use Rattle.std.specs.Int.Count.{ones}
use Rattle.std.proofs.Math.Bool.{or-false}
use Rattle.std.proofs.lemmas.Bool.{cases_lt, cases_eq, ne_eqb}
use Rattle.std.proofs.lemmas.List.{get_or-set_same, get_or-set_other, get_or-take, length-take}
use Rattle.std.proofs.lemmas.List.Sums.{count_by-le-length}
use Rattle.std.proofs.lemmas.List.FromFn.{length-map-range_with_len, get_or-map-range_with_len}
use Rattle.std.proofs.lemmas.Nat.{and_mask, mod_below, pow_pos}
use Rattle.std.proofs.lemmas.Nat.Bits.{bit_at_and, bit_at_or, bit_at_not, bit_at_ones, bit_at-lt, bit_at-zero, bit_at_above, ones_shr}
use Rattle.cell_marks.specs.Bits.{bit_in, bits_of}
use Rattle.cell_marks.specs.Marked.{is_set, count_in, union, row_at, any_marks}
use Rattle.cell_marks.proofs.Bits.{length_bits, at_bits, bits_are, bit_of_word}
use Rattle.cell_marks.proofs.Counts.{count_added, count_joined, ones_counted}
use Rattle.cell_marks.proofs.Unions.{is_one, bit, of_bit}

pub length_union : (a b : List Bool) → length (union a b) ≡ length a
length_union a b = length-map-range_with_len (λ c. is_set a c || is_set b c) 0 (length a)

at_union : (a b : List Bool) (c : ℕ) → c < length a → is_set (union a b) c ≡ (is_set a c || is_set b c)
at_union a b c h = get_or-map-range_with_len (λ c. is_set a c || is_set b c) 0 (length a) c c false h (omega arith)

-- words that have the bits of two others show the union of what these show
pub bits_union : (news olds other : List ℕ) (n : ℕ) → ((c : ℕ) → c < n → bit_in news c ≡ (bit_in olds c || bit_in other c)) → bits_of news n ≡ union (bits_of olds n) (bits_of other n)
bits_union news olds other n each = sym (bits_are news n (union (bits_of olds n) (bits_of other n)) (length_union (bits_of olds n) (bits_of other n) ∙ length_bits olds n) at_each)
  where
    at_each : (c : ℕ) → c < n → is_set (union (bits_of olds n) (bits_of other n)) c ≡ bit_in news c
    at_each c h =
        at_union (bits_of olds n) (bits_of other n) c (omega (arith, length_bits olds n))
        ∙ ap (λ u. u || is_set (bits_of other n) c) (at_bits olds n c h)
        ∙ ap (λ u. bit_in olds c || u) (at_bits other n c h)
        ∙ sym (each c h)

-- the bits below m that a word misses of another's
abbrev pub Misses : ℕ → ℕ → ℕ → ℕ → Type 0
Misses w o more m = (i : ℕ) → i < m → bit_at w i + bit_at more i ≡ max (bit_at w i) (bit_at o i)

-- such bits as a program finds them
abbrev missing : ℕ → ℕ → ℕ → ℕ
missing w o n = bit_and (bit_and o (18446744073709551615 - w)) (18446744073709551615 / 2 ^ (64 - n))

low_bits : (n : ℕ) → n ≤ 64 → 18446744073709551615 / 2 ^ (64 - n) ≡ 2 ^ n - 1
low_bits n h = ones_shr 64 (64 - n) (omega arith) ∙ ap (λ k. 2 ^ k - 1) (omega (arith, h))

pub missing_below : (w o n : ℕ) → n ≤ 64 → missing w o n < 2 ^ n
missing_below w o n h =
    let x = bit_and o (18446744073709551615 - w) in
    let e : missing w o n ≡ x % 2 ^ n = ap (bit_and x) (low_bits n h) ∙ and_mask x n in
    subst (λ v. v < 2 ^ n) (sym e) (mod_below x (2 ^ n) (pow_pos n))

-- what is found so are the bits that the word misses
pub missing_bits : (w o n : ℕ) → n ≤ 64 → w < 2 ^ 64 → Misses w o (missing w o n) n
missing_bits w o n h small i low =
    let x = bit_and o (18446744073709551615 - w) in
    let both : bit_at (missing w o n) i ≡ min (bit_at x i) (bit_at (2 ^ n - 1) i) = ap (λ v. bit_at (bit_and x v) i) (low_bits n h) ∙ bit_at_and x (2 ^ n - 1) i in
    let one : bit_at x i ≡ min (bit_at o i) (bit_at (18446744073709551615 - w) i) = bit_at_and o (18446744073709551615 - w) i in
    let not_set : bit_at (18446744073709551615 - w) i ≡ 1 - bit_at w i = bit_at_not w64 w i small (omega arith) in
    omega (arith, both, one, not_set, bit_at_ones n i low, bit_at-lt w i, bit_at-lt o i)

-- bits that a word misses are added to it
or_adds : (w o more m i : ℕ) → more < 2 ^ m → Misses w o more m → bit_at (bit_or w more) i ≡ bit_at w i + bit_at more i
or_adds w o more m i small missed = bit_at_or w more i ∙ by_place (cases_lt i m)
  where
    by_place : (i < m) ⊎ (m ≤ i) → max (bit_at w i) (bit_at more i) ≡ bit_at w i + bit_at more i
    by_place (inl low) = omega (arith, missed i low, bit_at-lt w i, bit_at-lt o i)
    by_place (inr high) = omega (arith, bit_at_above more m i small high)

either : (x y : ℕ) → x < 2 → y < 2 → eqb (max x y) 1 ≡ (eqb x 1 || eqb y 1)
either zero zero h k = refl
either zero (suc zero) h k = refl
either (suc zero) zero h k = refl
either (suc zero) (suc zero) h k = refl
either zero (suc (suc y)) h k = absurd (omega arith)
either (suc zero) (suc (suc y)) h k = absurd (omega arith)
either (suc (suc x)) y h k = absurd (omega arith)

-- the bits of two words joined
pub joined_bit : (a b w i : ℕ) → bit_or a b ≡ w → (is_one a i || is_one b i) ≡ is_one w i
joined_bit a b w i e = sym (either (bit_at a i) (bit_at b i) (bit_at-lt a i) (bit_at-lt b i)) ∙ ap (λ u. eqb u 1) (sym (bit_at_or a b i)) ∙ ap (λ v. is_one v i) e

-- a bit of the word that was changed, and of the others
pub here : (words : List ℕ) (at w c : ℕ) → at < length words → c / 64 ≡ at → bit_in (set words at w) c ≡ is_one w (c % 64)
here words at w c there e = ap (λ u. is_one (get_or (set words at w) u 0) (c % 64)) e ∙ ap (λ v. is_one v (c % 64)) (get_or-set_same words at w 0 there)

pub elsewhere : (words : List ℕ) (at w c : ℕ) → (c / 64 ≡ at → ⊥) → bit_in (set words at w) c ≡ bit_in words c
elsewhere words at w c ne = ap (λ v. is_one v (c % 64)) (get_or-set_other words at (c / 64) w 0 ne)

-- the words up to that one have the bits of both
pub added_more : (words olds other : List ℕ) (at more m n : ℕ) → at < length words → m ≡ min (n - 64 * at) 64 → more < 2 ^ m → Misses (get_or words at 0) (get_or other at 0) more m → ((c : ℕ) → c < 64 * at → c < n → bit_in words c ≡ (bit_in olds c || bit_in other c)) → ((c : ℕ) → 64 * at ≤ c → bit_in words c ≡ bit_in olds c) → (c : ℕ) → c < 64 * (at + 1) → c < n → bit_in (set words at (bit_or (get_or words at 0) more)) c ≡ (bit_in olds c || bit_in other c)
added_more words olds other at more m n there span small missed done rest c h low = by_word (cases_lt c (64 * at))
  where
    w : ℕ
    w = get_or words at 0

    o : ℕ
    o = get_or other at 0

    in_word : c / 64 ≡ at → c % 64 < m → bit_in (set words at (bit_or w more)) c ≡ (bit_in olds c || bit_in other c)
    in_word e k =
        let i = c % 64 in
        here words at (bit_or w more) c there e
        ∙ ap (λ b. eqb b 1) (or_adds w o more m i small missed ∙ missed i k)
        ∙ either (bit_at w i) (bit_at o i) (bit_at-lt w i) (bit_at-lt o i)
        ∙ ap (λ u. is_one (get_or words u 0) i || is_one (get_or other u 0) i) (sym e)
        ∙ ap (λ b. b || bit_in other c) (rest c (omega (arith, e)))

    by_word : (c < 64 * at) ⊎ (64 * at ≤ c) → bit_in (set words at (bit_or w more)) c ≡ (bit_in olds c || bit_in other c)
    by_word (inl l) = elsewhere words at (bit_or w more) c (λ e. absurd (omega (arith, e, l))) ∙ done c l low
    by_word (inr l) =
        let e : c / 64 ≡ at = omega (arith, l, h) in
        in_word e (omega (arith, e, span, low))

-- the words after that one are as they were
pub added_rest : (words olds : List ℕ) (at w : ℕ) → ((c : ℕ) → 64 * at ≤ c → bit_in words c ≡ bit_in olds c) → (c : ℕ) → 64 * (at + 1) ≤ c → bit_in (set words at w) c ≡ bit_in olds c
added_rest words olds at w rest c h = elsewhere words at w c (λ e. absurd (omega (arith, e, h))) ∙ rest c (omega arith)

-- bits of one word are added
pub word_added : (words : List ℕ) (at o more m n : ℕ) → at < length words → m ≡ min (n - 64 * at) 64 → more < 2 ^ m → Misses (get_or words at 0) o more m → (c : ℕ) → c < n → bit_in (set words at (bit_or (get_or words at 0) more)) c ≡ (bit_in words c || (eqb (c / 64) at && is_one o (c % 64)))
word_added words at o more m n there span small missed c low = by_word (cases_eq (c / 64) at)
  where
    w : ℕ
    w = get_or words at 0

    by_word : (c / 64 ≡ at) ⊎ (c / 64 ≡ at → ⊥) → bit_in (set words at (bit_or w more)) c ≡ (bit_in words c || (eqb (c / 64) at && is_one o (c % 64)))
    by_word (inl e) =
        let i = c % 64 in
        here words at (bit_or w more) c there e
        ∙ ap (λ b. eqb b 1) (or_adds w o more m i small missed ∙ missed i (omega (arith, e, span, low)))
        ∙ either (bit_at w i) (bit_at o i) (bit_at-lt w i) (bit_at-lt o i)
        ∙ ap (λ u. is_one (get_or words u 0) i || is_one o i) (sym e)
        ∙ ap (λ b. bit_in words c || (b && is_one o i)) (sym (eq-eqb _ _ e))
    by_word (inr ne) =
        elsewhere words at (bit_or w more) c ne
        ∙ sym (or-false (bit_in words c))
        ∙ ap (λ b. bit_in words c || (b && is_one o (c % 64))) (sym (ne_eqb _ _ ne))

-- as many more are set as there are ones in what was added
pub added_counted : (words : List ℕ) (at o more m n : ℕ) → at < length words → m ≤ 64 → 64 * at + m ≤ n → more < 2 ^ m → Misses (get_or words at 0) o more m → count_in (bits_of (set words at (bit_or (get_or words at 0) more)) n) ≡ count_in (bits_of words n) + ones more
added_counted words at o more m n there within room small missed =
    count_added (bit_in words) (bit_in (set words at (bit_or w more))) (is_one more) (64 * at) m n room before inside after
    ∙ ap (λ k. count_in (bits_of words n) + k) (ones_counted m more small)
  where
    w : ℕ
    w = get_or words at 0

    before : (c : ℕ) → c < 64 * at → bit_in (set words at (bit_or w more)) c ≡ bit_in words c
    before c h = elsewhere words at (bit_or w more) c (λ e. absurd (omega (arith, e, h)))

    inside : (i : ℕ) → i < m → bit (bit_in (set words at (bit_or w more)) (64 * at + i)) ≡ bit (bit_in words (64 * at + i)) + bit (is_one more i)
    inside i h =
        let new : bit_in (set words at (bit_or w more)) (64 * at + i) ≡ is_one (bit_or w more) i = bit_of_word (set words at (bit_or w more)) at i (omega arith) ∙ ap (λ v. is_one v i) (get_or-set_same words at (bit_or w more) 0 there) in
        omega (arith, ap bit new, ap bit (bit_of_word words at i (omega arith)), of_bit (bit_at (bit_or w more) i) (bit_at-lt (bit_or w more) i), of_bit (bit_at w i) (bit_at-lt w i), of_bit (bit_at more i) (bit_at-lt more i), or_adds w o more m i small missed)

    after : (c : ℕ) → 64 * at + m ≤ c → c < n → bit_in (set words at (bit_or w more)) c ≡ bit_in words c
    after c h low = by_word (cases_eq (c / 64) at)
      where
        by_word : (c / 64 ≡ at) ⊎ (c / 64 ≡ at → ⊥) → bit_in (set words at (bit_or w more)) c ≡ bit_in words c
        by_word (inl e) =
            here words at (bit_or w more) c there e
            ∙ ap (λ b. eqb b 1) (or_adds w o more m (c % 64) small missed ∙ omega (arith, bit_at_above more m (c % 64) small (omega (arith, h, e))))
            ∙ ap (λ u. is_one (get_or words u 0) (c % 64)) (sym e)
        by_word (inr ne) = elsewhere words at (bit_or w more) c ne

-- no more are set than there are
pub count_le : (words : List ℕ) (n : ℕ) → count_in (bits_of words n) ≤ n
count_le words n =
    let most : count_in (bits_of words n) ≤ length (bits_of words n) = count_by-le-length (λ b. b) (bits_of words n) in
    omega (arith, length_bits words n)

-- the words up to that one have the bits of both, those of the other run from a place on
pub joined_more : (words olds other : List ℕ) (from at : ℕ) → at < length words → ((c : ℕ) → c < 64 * at → bit_in words c ≡ (bit_in olds c || bit_in other (64 * from + c))) → ((c : ℕ) → 64 * at ≤ c → bit_in words c ≡ bit_in olds c) → (c : ℕ) → c < 64 * (at + 1) → bit_in (set words at (bit_or (get_or words at 0) (get_or other (from + at) 0))) c ≡ (bit_in olds c || bit_in other (64 * from + c))
joined_more words olds other from at there done rest c h = by_word (cases_lt c (64 * at))
  where
    w : ℕ
    w = get_or words at 0

    o : ℕ
    o = get_or other (from + at) 0

    in_word : c / 64 ≡ at → bit_in (set words at (bit_or w o)) c ≡ (bit_in olds c || bit_in other (64 * from + c))
    in_word e =
        let i = c % 64 in
        let place : 64 * (from + at) + i ≡ 64 * from + c = omega (arith, e) in
        here words at (bit_or w o) c there e
        ∙ ap (λ b. eqb b 1) (bit_at_or w o i)
        ∙ either (bit_at w i) (bit_at o i) (bit_at-lt w i) (bit_at-lt o i)
        ∙ ap (λ u. is_one (get_or words u 0) i || is_one o i) (sym e)
        ∙ ap (λ b. b || is_one o i) (rest c (omega (arith, e)))
        ∙ ap (λ b. bit_in olds c || b) (sym (bit_of_word other (from + at) i (omega arith)) ∙ ap (bit_in other) place)

    by_word : (c < 64 * at) ⊎ (64 * at ≤ c) → bit_in (set words at (bit_or w o)) c ≡ (bit_in olds c || bit_in other (64 * from + c))
    by_word (inl l) = elsewhere words at (bit_or w o) c (λ e. absurd (omega (arith, e, l))) ∙ done c l
    by_word (inr l) = in_word (omega (arith, l, h))

-- the words from a place on have the bits of one word more of another run
pub put_more : (words four : List ℕ) (from at : ℕ) → from + at < length words → ((k : ℕ) → k < 64 * at → bit_in words (64 * from + k) ≡ bit_in four k) → (k : ℕ) → k < 64 * (at + 1) → bit_in (set words (from + at) (get_or four at 0)) (64 * from + k) ≡ bit_in four k
put_more words four from at there done k h = by_word (cases_lt k (64 * at))
  where
    w : ℕ
    w = get_or four at 0

    by_word : (k < 64 * at) ⊎ (64 * at ≤ k) → bit_in (set words (from + at) w) (64 * from + k) ≡ bit_in four k
    by_word (inl l) = elsewhere words (from + at) w (64 * from + k) (λ e. absurd (omega (arith, e, l))) ∙ done k l
    by_word (inr l) =
        let mine : at ≡ k / 64 = omega (arith, l, h) in
        let same : (64 * from + k) % 64 ≡ k % 64 = omega arith in
        here words (from + at) w (64 * from + k) there (omega (arith, mine))
        ∙ ap (is_one w) same
        ∙ ap (λ u. is_one (get_or four u 0) (k % 64)) mine

-- the bits of one word more are counted
pub counted_more : (words : List ℕ) (at low m : ℕ) → m ≤ 64 → low < 2 ^ m → Misses 0 (get_or words at 0) low m → count_in (bits_of words (64 * at + m)) ≡ count_in (bits_of words (64 * at)) + ones low
counted_more words at low m within small same =
    count_joined (bit_in words) (is_one low) (64 * at) m each ∙ ap (λ k. count_in (bits_of words (64 * at)) + k) (ones_counted m low small)
  where
    each : (i : ℕ) → i < m → bit_in words (64 * at + i) ≡ is_one low i
    each i h =
        bit_of_word words at i (omega (arith, h, within))
        ∙ ap (λ b. eqb b 1) (let e : bit_at (get_or words at 0) i ≡ bit_at low i = omega (arith, same i h, bit_at-zero i) in e)

-- the first bits of a row
pub taken_bits : (words : List ℕ) (n m : ℕ) → m ≤ n → bits_of words m ≡ take m (bits_of words n)
taken_bits words n m h =
    sym (bits_are words m (take m (bits_of words n)) (length-take m (bits_of words n) ∙ omega (arith, h, length_bits words n)) (λ c k. get_or-take m (bits_of words n) c false k ∙ at_bits words n c (omega (arith, h, k))))

-- marks of rows whose components are marked, one more of them
or_swapped : (a b : Bool) → (a || b) ≡ (b || a)
or_swapped true true = refl
or_swapped true false = refl
or_swapped false true = refl
or_swapped false false = refl

module _ (marks : List Bool) (rows : List (List Bool)) (c : ℕ) where
  pub any_over : (n m : ℕ) → n ≤ m → ((k : ℕ) → n ≤ k → k < m → is_set marks k ≡ false) → any_marks marks rows c m ≡ any_marks marks rows c n
  any_over n zero h none = let e : n ≡ 0 = omega (arith, h) in ap (any_marks marks rows c) (sym e)
  any_over n (suc m) h none = by_place (cases_lt m n) (λ l. any_over n m l (λ k i j. none k i (omega (arith, j))))
    where
      by_place : (m < n) ⊎ (n ≤ m) → (n ≤ m → any_marks marks rows c m ≡ any_marks marks rows c n) → any_marks marks rows c (suc m) ≡ any_marks marks rows c n
      by_place (inl l) before = let e : suc m ≡ n = omega (arith, h, l) in ap (any_marks marks rows c) e
      by_place (inr l) before = ap (λ b. (b && is_set (row_at rows m) c) || any_marks marks rows c m) (none m l (omega arith)) ∙ before l

  pub any_end : (n m : ℕ) → n ≤ m → ((k : ℕ) → n ≤ k → is_set marks k ≡ false) → any_marks marks rows c m ≡ any_marks marks rows c n
  any_end n m h none = any_over n m h (λ k i j. none k i)

  pub any_more : (n k : ℕ) → n ≤ k → is_set marks k ≡ true → ((j : ℕ) → n ≤ j → j < k → is_set marks j ≡ false) → (any_marks marks rows c n || is_set (row_at rows k) c) ≡ any_marks marks rows c (k + 1)
  any_more n k h here none =
      let one : suc k ≡ k + 1 = omega arith in
      or_swapped (any_marks marks rows c n) (is_set (row_at rows k) c)
      ∙ ap (λ b. is_set (row_at rows k) c || b) (sym (any_over n k h none))
      ∙ ap (λ b. (b && is_set (row_at rows k) c) || any_marks marks rows c k) (sym here)
      ∙ ap (any_marks marks rows c) one
