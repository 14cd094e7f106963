-- Rows of bits.
use Rattle.std.proofs.Common.{◌≡◌, ℕ, ◌+◌, ◌-◌, ◌*◌, ◌/◌, ◌%◌, ◌<◌, ◌≤◌, ◌∙◌, sym, ap, subst, arith, Bool, true, false, cond, eqb, ◌⊎◌, inl, inr, List, length, replicate, get_or}
use Rattle.std.specs.Int.{bit_at}
use Rattle.std.proofs.Math.ListN.{set, length-set}
use Rattle.std.proofs.lemmas.Bool.{cases_lt, cases_eq}
use Rattle.std.proofs.lemmas.List.{length-replicate, get_or-replicate, get_or-set_same, get_or-set_other, get_or_past}
use Rattle.std.proofs.lemmas.List.FromFn.{length-map-range_with_len, get_or-map-range_with_len, fill_by_all}
use Rattle.std.proofs.lemmas.List.Folds.{sum_by-replicate}
use Rattle.std.proofs.lemmas.List.Sums.{sum_by-set, count_by-le-length}
use Rattle.cell_marks.specs.Bits.{bit_in, bits_of}
use Rattle.cell_marks.specs.Marked.{is_set, count_in, IsFirstFrom}

pub length_bits : (words : List ℕ) (n : ℕ) → length (bits_of words n) ≡ n
length_bits words n = length-map-range_with_len (bit_in words) 0 n

pub at_bits : (words : List ℕ) (n c : ℕ) → c < n → is_set (bits_of words n) c ≡ bit_in words c
at_bits words n c h = get_or-map-range_with_len (bit_in words) 0 n c c false h (omega arith)

pub past_bits : (words : List ℕ) (n c : ℕ) → n ≤ c → is_set (bits_of words n) c ≡ false
past_bits words n c h = get_or_past (bits_of words n) c false (omega (arith, length_bits words n))

pub bits_are : (words : List ℕ) (n : ℕ) (row : List Bool) → length row ≡ n → ((c : ℕ) → c < n → is_set row c ≡ bit_in words c) → row ≡ bits_of words n
bits_are words n row h at = fill_by_all (bit_in words) row n false h at

-- words whose bits are all alike
pub bits_of_one : (m n w : ℕ) (b : Bool) → n ≤ 64 * m → ((i : ℕ) → i < 64 → eqb (bit_at w i) 1 ≡ b) → bits_of (replicate m w) n ≡ replicate n b
bits_of_one m n w b room alike = sym (bits_are (replicate m w) n (replicate n b) (length-replicate n b) (λ c h. get_or-replicate n c b false h ∙ sym (each c h)))
  where
    each : (c : ℕ) → c < n → bit_in (replicate m w) c ≡ b
    each c h = ap (λ v. eqb (bit_at v (c % 64)) 1) (get_or-replicate m (c / 64) w 0 (omega arith)) ∙ alike (c % 64) (omega arith)

pub count_one : (n : ℕ) (b : Bool) → count_in (replicate n b) ≡ cond b n 0
count_one n true = sum_by-replicate (λ b. cond b 1 0) n true ∙ omega arith
count_one n false = sum_by-replicate (λ b. cond b 1 0) n false ∙ omega arith

-- one bit is changed
pub bits_set : (words : List ℕ) (n c w : ℕ) (b : Bool) → c < n → n ≤ 64 * length words → eqb (bit_at w (c % 64)) 1 ≡ b → ((i : ℕ) → i < 64 → (i ≡ c % 64 → ⊥) → bit_at w i ≡ bit_at (get_or words (c / 64) 0) i) → bits_of (set words (c / 64) w) n ≡ set (bits_of words n) c b
bits_set words n c w b h room here other = sym (bits_are (set words (c / 64) w) n (set (bits_of words n) c b) (length-set (bits_of words n) c b ∙ length_bits words n) (λ k m. at_each k m (cases_eq k c)))
  where
    there : c / 64 < length words
    there = omega arith

    same_word : (k : ℕ) → k < n → (k ≡ c → ⊥) → k / 64 ≡ c / 64 → is_set (set (bits_of words n) c b) k ≡ bit_in (set words (c / 64) w) k
    same_word k m ne e =
        get_or-set_other (bits_of words n) c k b false ne
        ∙ at_bits words n k m
        ∙ ap (λ u. eqb (bit_at (get_or words u 0) (k % 64)) 1) e
        ∙ ap (λ v. eqb v 1) (sym (other (k % 64) (omega arith) (λ q. ne (omega arith))))
        ∙ ap (λ v. eqb (bit_at v (k % 64)) 1) (sym (get_or-set_same words (c / 64) w 0 there))
        ∙ ap (λ u. eqb (bit_at (get_or (set words (c / 64) w) u 0) (k % 64)) 1) (sym e)

    other_word : (k : ℕ) → k < n → (k ≡ c → ⊥) → (k / 64 ≡ c / 64 → ⊥) → is_set (set (bits_of words n) c b) k ≡ bit_in (set words (c / 64) w) k
    other_word k m ne e =
        get_or-set_other (bits_of words n) c k b false ne
        ∙ at_bits words n k m
        ∙ ap (λ v. eqb (bit_at v (k % 64)) 1) (sym (get_or-set_other words (c / 64) (k / 64) w 0 e))

    by_word : (k : ℕ) → k < n → (k ≡ c → ⊥) → (k / 64 ≡ c / 64) ⊎ (k / 64 ≡ c / 64 → ⊥) → is_set (set (bits_of words n) c b) k ≡ bit_in (set words (c / 64) w) k
    by_word k m ne (inl e) = same_word k m ne e
    by_word k m ne (inr e) = other_word k m ne e

    at_each : (k : ℕ) → k < n → (k ≡ c) ⊎ (k ≡ c → ⊥) → is_set (set (bits_of words n) c b) k ≡ bit_in (set words (c / 64) w) k
    at_each k m (inl e) = subst (λ u. is_set (set (bits_of words n) c b) u ≡ bit_in (set words (c / 64) w) u) (sym e) (get_or-set_same (bits_of words n) c b false (omega (arith, length_bits words n)) ∙ sym here ∙ ap (λ v. eqb (bit_at v (c % 64)) 1) (sym (get_or-set_same words (c / 64) w 0 there)))
    at_each k m (inr ne) = by_word k m ne (cases_eq (k / 64) (c / 64))

-- how many are set, once one was changed
pub count_set : (row : List Bool) (c : ℕ) (b : Bool) → c < length row → count_in (set row c b) + cond (is_set row c) 1 0 ≡ count_in row + cond b 1 0
count_set row c b h = sum_by-set (λ (x : Bool). cond x 1 0) row c b false h

-- the number of set bits, once a bit was set or cleared
pub count_kept : (olds news : List ℕ) (n c count count1 : ℕ) (b : Bool) → c < n → bits_of news n ≡ set (bits_of olds n) c b → count ≡ count_in (bits_of olds n) → count1 + cond (is_set (bits_of olds n) c) 1 0 ≡ count + cond b 1 0 → count1 ≡ count_in (bits_of news n)
count_kept olds news n c count count1 b h e k q =
    let same = count_set (bits_of olds n) c b (omega (arith, length_bits olds n)) in
    ap (λ (u : ℕ). u) (omega (arith, same, q, k)) ∙ ap count_in (sym e)

-- where one isn't set, there is room for one more
pub count_room : (words : List ℕ) (n c count : ℕ) → c < n → count ≡ count_in (bits_of words n) → is_set (bits_of words n) c ≡ false → count + 1 ≤ n
count_room words n c count h e unset =
    let row = bits_of words n in
    let less : count_in (set row c true) ≤ length (set row c true) = count_by-le-length (λ b. b) (set row c true) in
    let same : count_in (set row c true) + cond (is_set row c) 1 0 ≡ count_in row + 1 = count_set row c true (omega (arith, length_bits words n)) in
    let zero_one : count_in (set row c true) + 0 ≡ count_in row + 1 = subst (λ b. count_in (set row c true) + cond b 1 0 ≡ count_in row + 1) unset same in
    omega (arith, length-set row c true, length_bits words n)

-- where one is set, it is counted
pub count_some : (words : List ℕ) (n c count : ℕ) → c < n → count ≡ count_in (bits_of words n) → is_set (bits_of words n) c ≡ true → 0 < count
count_some words n c count h e marked =
    let row = bits_of words n in
    let same : count_in (set row c false) + cond (is_set row c) 1 0 ≡ count_in row + 0 = count_set row c false (omega (arith, length_bits words n)) in
    let one : count_in (set row c false) + 1 ≡ count_in row + 0 = subst (λ b. count_in (set row c false) + cond b 1 0 ≡ count_in row + 0) marked same in
    omega arith

-- the bits of one word
pub bit_of_word : (words : List ℕ) (at i : ℕ) → i < 64 → bit_in words (64 * at + i) ≡ eqb (bit_at (get_or words at 0) i) 1
bit_of_word words at i h =
    let q : (64 * at + i) / 64 ≡ at = omega arith in
    let r : (64 * at + i) % 64 ≡ i = omega arith in
    ap (λ u. eqb (bit_at (get_or words u 0) ((64 * at + i) % 64)) 1) q ∙ ap (λ u. eqb (bit_at (get_or words at 0) u) 1) r

-- no bit is set up to a place in a word
pub none_up_to : (words : List ℕ) (from at low z : ℕ) → ((i : ℕ) → i < low → 64 * at + i < from) → ((k : ℕ) → from ≤ k → k < 64 * at → bit_in words k ≡ false) → z ≤ 64 → ((i : ℕ) → low ≤ i → i < z → bit_at (get_or words at 0) i ≡ 0) → (k : ℕ) → from ≤ k → k < 64 * at + z → bit_in words k ≡ false
none_up_to words from at low z below before small none k above under = by_place (cases_lt k (64 * at))
  where
    in_word : (i : ℕ) → 64 * at + i ≡ k → bit_in words k ≡ false
    in_word i e =
        subst (λ u. bit_in words u ≡ false) e
        (bit_of_word words at i (omega arith) ∙ ap (λ b. eqb b 1) (none i (by_low (cases_lt i low)) (omega arith)))
      where
        by_low : (i < low) ⊎ (low ≤ i) → low ≤ i
        by_low (inl h) = absurd (omega (arith, below i h))
        by_low (inr h) = h

    by_place : (k < 64 * at) ⊎ (64 * at ≤ k) → bit_in words k ≡ false
    by_place (inl h) = before k above h
    by_place (inr h) = in_word (k - 64 * at) (omega arith)

-- the first set bit of the words is the row's, or the row has none from there on
pub row_none : (words : List ℕ) (n from z : ℕ) → n ≤ z → ((k : ℕ) → from ≤ k → k < z → bit_in words k ≡ false) → (k : ℕ) → from ≤ k → is_set (bits_of words n) k ≡ false
row_none words n from z h none k above = by_place (cases_lt k n)
  where
    by_place : (k < n) ⊎ (n ≤ k) → is_set (bits_of words n) k ≡ false
    by_place (inl m) = at_bits words n k m ∙ none k above (omega arith)
    by_place (inr m) = past_bits words n k m

pub row_first : (words : List ℕ) (n from c : ℕ) → c < n → from ≤ c → bit_in words c ≡ true → ((k : ℕ) → from ≤ k → k < c → bit_in words k ≡ false) → IsFirstFrom (bits_of words n) from c
row_first words n from c h above there none = (above, at_bits words n c h ∙ there, λ k low high. at_bits words n k (omega arith) ∙ none k low high)

-- words whose bits are made alike in turn
pub alike_more : (words : List ℕ) (at w : ℕ) (b : Bool) → at < length words → ((i : ℕ) → i < 64 → eqb (bit_at w i) 1 ≡ b) → ((k : ℕ) → k < 64 * at → bit_in words k ≡ b) → (k : ℕ) → k < 64 * (at + 1) → bit_in (set words at w) k ≡ b
alike_more words at w b there alike done k h = by_word (cases_lt (k / 64) at)
  where
    by_word : (k / 64 < at) ⊎ (at ≤ k / 64) → bit_in (set words at w) k ≡ b
    by_word (inl l) =
        ap (λ v. eqb (bit_at v (k % 64)) 1) (get_or-set_other words at (k / 64) w 0 (λ e. absurd (omega (arith, e, l)))) ∙ done k (omega arith)
    by_word (inr l) =
        let e : k / 64 ≡ at = omega (arith, l, h) in
        ap (λ u. eqb (bit_at (get_or (set words at w) u 0) (k % 64)) 1) e ∙ ap (λ v. eqb (bit_at v (k % 64)) 1) (get_or-set_same words at w 0 there) ∙ alike (k % 64) (omega arith)

-- a row whose bits are all alike
pub bits_alike : (words : List ℕ) (m n : ℕ) (b : Bool) → n ≤ 64 * m → ((k : ℕ) → k < 64 * m → bit_in words k ≡ b) → bits_of words n ≡ replicate n b
bits_alike words m n b room alike = sym (bits_are words n (replicate n b) (length-replicate n b) (λ c h. get_or-replicate n c b false h ∙ sym (alike c (omega (arith, room, h)))))
