-- A set of components, put into the words of marks.
use Rattle.std.proofs.Common.{◌≡◌, ℕ, zero, suc, ◌+◌, ◌-◌, ◌*◌, ◌/◌, ◌%◌, ◌^◌, ◌<◌, ◌≤◌, Bool, true, false, refl, ap, sym, ◌∙◌, ◌⊎◌, inl, inr, arith}
use Rattle.std.specs.Prelude.{◌==◌, ◌&&◌, nat_eq, nat_le, nat_lt, bit_and}
use Rattle.std.specs.Int.{bit_at}
use Rattle.std.proofs.Math.Pow.{pow_mono}
use Rattle.std.proofs.lemmas.Bool.{cases_lt, leb-true, ltb-true, le-leb, lt-ltb, le-ltb, eqb-true, eq-eqb}
use Rattle.std.proofs.lemmas.Nat.{pow_below, shr_split}
use Rattle.std.proofs.lemmas.Nat.Bits.{ones_shr, bit_at_ones, bit_at_ones_above, bit_at_cat_low, bit_at-zero}
use Rattle.omega_net.specs.Numbers.{half, lines}
use Rattle.flat_row.specs.Masks.{has}
use Rattle.flat_row.proofs.Masking.{has_and, has_up}
use Rattle.whole_rows.specs.Among.{is_among}

pub has_none : (j : ℕ) → has 0 j ≡ false
has_none j = ap (λ n. n == 1) (bit_at-zero j)

-- numbers outside of a range, and within it
pub outside : (first n c : ℕ) (test : ℕ → Bool) → (first ≤ c → c < first + n → ⊥) → is_among first n test c ≡ false
outside first n c test apart = by_tests (nat_le first c) refl (nat_lt c (first + n)) refl
  where
    by_tests : (a : Bool) → nat_le first c ≡ a → (b : Bool) → nat_lt c (first + n) ≡ b → (a && (b && test (c - first))) ≡ false
    by_tests false ea b eb = refl
    by_tests true ea false eb = refl
    by_tests true ea true eb = absurd (apart (leb-true first c ea) (ltb-true c (first + n) eb))

pub inside : (first n c : ℕ) (test : ℕ → Bool) → first ≤ c → c < first + n → is_among first n test c ≡ test (c - first)
inside first n c test low high =
    ap (λ a. a && (nat_lt c (first + n) && test (c - first))) (le-leb first c low) ∙ ap (λ b. b && test (c - first)) (lt-ltb c (first + n) high)

-- shifted up, no bit stands below the shift
low_up : (a d x : ℕ) → x < 64 → x < d → has (a * 2 ^ d % 2 ^ 64) x ≡ false
low_up a d x within low =
    ap (λ n. n == 1) (sym (bit_at_cat_low (a * 2 ^ d / 2 ^ 64) 64 (a * 2 ^ d % 2 ^ 64) x within) ∙ ap (λ m. bit_at m x) (shr_split (a * 2 ^ d) 64 ∙ more (a * 2 ^ d)) ∙ bit_at_cat_low a d 0 x low ∙ bit_at-zero x)
  where
    more : (n : ℕ) → n ≡ n + 0
    more n = omega arith

-- the bits of a set of n, shifted to where they begin in their word, are the marks of a range of n
module _ (first n bits c : ℕ) (test : ℕ → Bool) (room : first % 64 + n ≤ 64) (alike : (j : ℕ) → j < 64 → has bits j ≡ (nat_lt j n && test j)) where
  abbrev shifted : ℕ
  shifted = bits * 2 ^ (first % 64) % 2 ^ 64

  here : c / 64 ≡ first / 64 → first ≤ c → has shifted (c % 64) ≡ is_among first n test c
  here same low =
      let at : c % 64 - first % 64 ≡ c - first = omega arith in
      has_up bits (first % 64) (c % 64) (omega arith) (omega arith) ∙ ap (has bits) at ∙ alike (c - first) (omega arith) ∙ by_place (cases_lt (c - first) n)
    where
      by_place : (c - first < n) ⊎ (n ≤ c - first) → (nat_lt (c - first) n && test (c - first)) ≡ is_among first n test c
      by_place (inl h) = ap (λ b. b && test (c - first)) (lt-ltb (c - first) n h) ∙ sym (inside first n c test low (omega arith))
      by_place (inr h) = ap (λ b. b && test (c - first)) (le-ltb (c - first) n h) ∙ sym (outside first n c test (λ above below. omega (arith, below, h, low)))

  pub word_marks : (nat_eq (c / 64) (first / 64) && nat_eq (bit_at shifted (c % 64)) 1) ≡ is_among first n test c
  word_marks = by_word (nat_eq (c / 64) (first / 64)) refl
    where
      by_order : c / 64 ≡ first / 64 → (c < first) ⊎ (first ≤ c) → has shifted (c % 64) ≡ is_among first n test c
      by_order same (inl h) = low_up bits (first % 64) (c % 64) (omega arith) (omega (arith, same, h)) ∙ sym (outside first n c test (λ above below. omega (arith, above, h)))
      by_order same (inr h) = here same h

      by_word : (t : Bool) → nat_eq (c / 64) (first / 64) ≡ t → (t && nat_eq (bit_at shifted (c % 64)) 1) ≡ is_among first n test c
      by_word true e = let same : c / 64 ≡ first / 64 = eqb-true (c / 64) (first / 64) e in by_order same (cases_lt c first)
      by_word false e = sym (outside first n c test (λ above below. other (omega (arith, above, below, room))))
        where
          other : c / 64 ≡ first / 64 → ⊥
          other same = false_true (sym e ∙ eq-eqb (c / 64) (first / 64) same)
            where
              false_true : false ≡ true → ⊥
              false_true e = cc

-- the bits of a set below n
pub below_bits : (set n : ℕ) → n ≤ 64 → (j : ℕ) → j < 64 → has (bit_and set (18446744073709551615 / 2 ^ (64 - n))) j ≡ (nat_lt j n && has set j)
below_bits set n few j within = has_and set (18446744073709551615 / 2 ^ (64 - n)) j ∙ by_place (cases_lt j n)
  where
    mask : 18446744073709551615 / 2 ^ (64 - n) ≡ 2 ^ n - 1
    mask = let back : 64 - (64 - n) ≡ n = omega arith in ones_shr 64 (64 - n) (omega arith) ∙ ap (λ d. 2 ^ d - 1) back

    and_true : (a : Bool) → (a && true) ≡ a
    and_true true = refl
    and_true false = refl

    and_false : (a : Bool) → (a && false) ≡ false
    and_false true = refl
    and_false false = refl

    by_place : (j < n) ⊎ (n ≤ j) → (has set j && has (18446744073709551615 / 2 ^ (64 - n)) j) ≡ (nat_lt j n && has set j)
    by_place (inl h) = ap (λ m. has set j && has m j) mask ∙ ap (λ b. has set j && (b == 1)) (bit_at_ones n j h) ∙ and_true (has set j) ∙ sym (ap (λ b. b && has set j) (lt-ltb j n h))
    by_place (inr h) = ap (λ m. has set j && has m j) mask ∙ ap (λ b. has set j && (b == 1)) (bit_at_ones_above n j h) ∙ and_false (has set j) ∙ sym (ap (λ b. b && has set j) (le-ltb j n h))

-- where ranges begin in their words
pub lines_few : (k : ℕ) → k ≤ 6 → lines k ≤ 64
lines_few k few = pow_mono few

pub stages_few : (k : ℕ) → lines k ≤ 64 → k ≤ 6
stages_few k few = by_place (cases_lt k 7)
  where
    by_place : (k < 7) ⊎ (7 ≤ k) → k ≤ 6
    by_place (inl h) = omega (arith, h)
    by_place (inr h) = let more : 2 ^ 6 < 2 ^ k = pow_below 6 k (omega (arith, h)) in absurd (omega (arith, more, few))

pub lines_in_word : (k : ℕ) → k ≤ 6 → lines k % 64 + lines k ≤ 64
lines_in_word zero h = omega arith
lines_in_word (suc zero) h = omega arith
lines_in_word (suc (suc zero)) h = omega arith
lines_in_word (suc (suc (suc zero))) h = omega arith
lines_in_word (suc (suc (suc (suc zero)))) h = omega arith
lines_in_word (suc (suc (suc (suc (suc zero))))) h = omega arith
lines_in_word (suc (suc (suc (suc (suc (suc zero)))))) h = omega arith
lines_in_word (suc (suc (suc (suc (suc (suc (suc k))))))) h = absurd (omega arith)

pub half_in_word : (k m : ℕ) → k ≤ 6 → (m * half k) % 64 + half k ≤ 64
half_in_word zero m h = omega arith
half_in_word (suc zero) m h = omega arith
half_in_word (suc (suc zero)) m h = omega arith
half_in_word (suc (suc (suc zero))) m h = omega arith
half_in_word (suc (suc (suc (suc zero)))) m h = omega arith
half_in_word (suc (suc (suc (suc (suc zero))))) m h = omega arith
half_in_word (suc (suc (suc (suc (suc (suc zero)))))) m h = omega arith
half_in_word (suc (suc (suc (suc (suc (suc (suc k))))))) m h = absurd (omega arith)
