-- The first label of a set from one on.
use Rattle.std.proofs.Common.{◌≡◌, ℕ, ◌-◌, ◌*◌, ◌%◌, ◌^◌, ◌<◌, ◌≤◌, true, false, ◌∙◌, sym, ap, arith, min, ◌⊎◌, inl, inr}
use Rattle.std.specs.Prelude.{◌==◌}
use Rattle.std.specs.Int.{bit_at}
use lib.Bits.{bit_and}
use Rattle.std.proofs.lemmas.Bool.{cases_lt}
use Rattle.std.proofs.lemmas.Nat.Bits.{ones_shl, bit_at_and, bit_at_mask_inside, bit_at_mask_below, bit_at-lt, bit_at-zero}
use Rattle.flat_row.specs.Masks.{has}

abbrev pub masked : ℕ → ℕ → ℕ
masked n k = bit_and n (18446744073709551615 * 2 ^ k % 18446744073709551616)

mask_bits : (n k i : ℕ) → k < 64 → bit_at (masked n k) i ≡ min (bit_at n i) (bit_at (2 ^ 64 - 2 ^ k) i)
mask_bits n k i h =
    let within : k ≤ 64 = omega arith in
    ap (λ m. bit_at (bit_and n m) i) (ones_shl 64 k within) ∙ bit_at_and n (2 ^ 64 - 2 ^ k) i

mask_same : (n k i : ℕ) → k < 64 → k ≤ i → i < 64 → bit_at (masked n k) i ≡ bit_at n i
mask_same n k i h low high = mask_bits n k i h ∙ ap (λ b. min (bit_at n i) b) (bit_at_mask_inside k 64 i low high) ∙ omega (arith, bit_at-lt n i)

mask_low : (n k i : ℕ) → k < 64 → i < k → bit_at (masked n k) i ≡ 0
mask_low n k i h low = mask_bits n k i h ∙ ap (λ b. min (bit_at n i) b) (bit_at_mask_below k 64 i low) ∙ omega arith

pub none_from : (n k : ℕ) → k < 64 → masked n k ≡ 0 → (y : ℕ) → k ≤ y → y < 64 → has n y ≡ false
none_from n k h e y low high = ap (λ b. b == 1) (sym (mask_same n k y h low high) ∙ ap (λ m. bit_at m y) e ∙ bit_at-zero y)

pub first_at : (n k z : ℕ) → k < 64 → z < 64 → bit_at (masked n k) z ≡ 1 → (k ≤ z) × (z < 64) × (has n z ≡ true)
first_at n k z h high set = by_place (cases_lt z k)
  where
    by_place : (z < k) ⊎ (k ≤ z) → (k ≤ z) × (z < 64) × (has n z ≡ true)
    by_place (inl low) = absurd (omega (arith, set, mask_low n k z h low))
    by_place (inr low) = (low, high, ap (λ b. b == 1) (sym (mask_same n k z h low high) ∙ set))

pub passed_by : (n k z : ℕ) → k < 64 → z < 64 → ((i : ℕ) → i < z → bit_at (masked n k) i ≡ 0) → (y : ℕ) → k ≤ y → y < z → has n y ≡ false
passed_by n k z h high rest y low below = ap (λ b. b == 1) (sym (mask_same n k y h low (omega (arith, below, high))) ∙ rest y below)
