-- Words of which just the bits are kept that another has, or hasn't.
use Rattle.std.proofs.Common.{◌≡◌, ℕ, zero, suc, ◌+◌, ◌-◌, ◌*◌, ◌/◌, ◌%◌, ◌^◌, ◌<◌, ◌≤◌, ◌∙◌, sym, ap, refl, arith, min, w64, Bool, eqb, ◌&&◌, not, ◌⊎◌, inl, inr, List, length, get_or}
use Rattle.std.proofs.Math.ListN.{set}
use Rattle.std.specs.Int.{bit_at}
use Rattle.std.specs.Int.Bits.{bit_and}
use Rattle.std.specs.Int.Count.{ones}
use Rattle.std.proofs.lemmas.Bool.{cases_lt}
use Rattle.std.proofs.lemmas.Nat.Bits.{bit_at_and, bit_at_not, bit_at-lt}
use Rattle.cell_marks.specs.Bits.{bit_in, bits_of}
use Rattle.cell_marks.specs.Marked.{count_in}
use Rattle.cell_marks.proofs.Counts.{count_alike}
use Rattle.cell_marks.proofs.Unions.{is_one}
use Rattle.cell_marks.proofs.Added.{Misses, here, elsewhere, counted_more}

both : (x y : ℕ) → x < 2 → y < 2 → eqb (min x y) 1 ≡ (eqb x 1 && eqb y 1)
both zero zero h k = refl
both zero (suc zero) h k = refl
both (suc zero) zero h k = refl
both (suc zero) (suc zero) h k = refl
both zero (suc (suc y)) h k = absurd (omega arith)
both (suc zero) (suc (suc y)) h k = absurd (omega arith)
both (suc (suc x)) y h k = absurd (omega arith)

other_bit : (x : ℕ) → x < 2 → eqb (1 - x) 1 ≡ not (eqb x 1)
other_bit zero h = refl
other_bit (suc zero) h = refl
other_bit (suc (suc x)) h = absurd (omega arith)

-- the bits that two words have
pub kept_bit : (w o i : ℕ) → is_one (bit_and w o) i ≡ (is_one w i && is_one o i)
kept_bit w o i = ap (λ b. eqb b 1) (bit_at_and w o i) ∙ both (bit_at w i) (bit_at o i) (bit_at-lt w i) (bit_at-lt o i)

-- the bits that a word has and the other hasn't
pub left_bit : (w o i : ℕ) → o < 2 ^ 64 → i < 64 → is_one (bit_and w (18446744073709551615 - o)) i ≡ (is_one w i && not (is_one o i))
left_bit w o i small within =
    kept_bit w (18446744073709551615 - o) i
    ∙ ap (λ b. is_one w i && eqb b 1) (bit_at_not w64 o i small within)
    ∙ ap (λ b. is_one w i && b) (other_bit (bit_at o i) (bit_at-lt o i))

-- the words up to that one have what comes of the bits of both
pub changed_more : (op : Bool → Bool → Bool) (words olds other : List ℕ) (at w : ℕ) → at < length words → ((i : ℕ) → i < 64 → is_one w i ≡ op (is_one (get_or words at 0) i) (is_one (get_or other at 0) i)) → ((c : ℕ) → c < 64 * at → bit_in words c ≡ op (bit_in olds c) (bit_in other c)) → ((c : ℕ) → 64 * at ≤ c → bit_in words c ≡ bit_in olds c) → (c : ℕ) → c < 64 * (at + 1) → bit_in (set words at w) c ≡ op (bit_in olds c) (bit_in other c)
changed_more op words olds other at w there comes done rest c h = by_word (cases_lt c (64 * at))
  where
    in_word : c / 64 ≡ at → bit_in (set words at w) c ≡ op (bit_in olds c) (bit_in other c)
    in_word e =
        let i = c % 64 in
        here words at w c there e
        ∙ comes i (omega arith)
        ∙ ap (λ u. op (is_one (get_or words u 0) i) (is_one (get_or other u 0) i)) (sym e)
        ∙ ap (λ b. op b (bit_in other c)) (rest c (omega (arith, e)))

    by_word : (c < 64 * at) ⊎ (64 * at ≤ c) → bit_in (set words at w) c ≡ op (bit_in olds c) (bit_in other c)
    by_word (inl l) = elsewhere words at w c (λ e. absurd (omega (arith, e, l))) ∙ done c l
    by_word (inr l) = in_word (omega (arith, l, h))

-- the bits of a word that was changed are counted
pub counted_changed : (words : List ℕ) (at w n count low m : ℕ) → at < length words → m ≡ min (n - 64 * at) 64 → 64 * at < n → low < 2 ^ m → Misses 0 (get_or (set words at w) at 0) low m → count ≡ count_in (bits_of words (min n (64 * at))) → count + ones low ≡ count_in (bits_of (set words at w) (min n (64 * (at + 1))))
counted_changed words at w n count low m there span some small same counted =
    let start : min n (64 * at) ≡ 64 * at = omega (arith, some) in
    let end : 64 * at + m ≡ min n (64 * (at + 1)) = omega (arith, some, span) in
    let old : count_in (bits_of (set words at w) (64 * at)) ≡ count_in (bits_of words (64 * at)) = count_alike (bit_in words) (bit_in (set words at w)) (64 * at) (λ c h. elsewhere words at w c (λ e. absurd (omega (arith, e, h)))) in
    let more = counted_more (set words at w) at low m (omega (arith, span)) small same in
    omega (arith, more, old, counted, ap (λ j. count_in (bits_of words j)) start, ap (λ j. count_in (bits_of (set words at w) j)) end)

-- the first n bits are those of all words
pub counted_whole : (words : List ℕ) (at n count : ℕ) → n ≤ 64 * at → count ≡ count_in (bits_of words (min n (64 * at))) → count ≡ count_in (bits_of words n)
counted_whole words at n count all counted = let end : min n (64 * at) ≡ n = omega (arith, all) in counted ∙ ap (λ j. count_in (bits_of words j)) end
