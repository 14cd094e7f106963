-- The greatest number that passes a test, and the last stages that are full.
use Rattle.std.proofs.Common.{◌≡◌, ℕ, zero, suc, ◌+◌, ◌-◌, ◌<◌, ◌≤◌, Bool, true, false, cond, refl, ap, ◌∙◌, arith}
use Rattle.std.specs.Prelude.{drop, ◌==◌}
use Rattle.std.specs.List.{list_all}
use Rattle.std.proofs.lemmas.Bool.{eqb-true}
use Rattle.std.proofs.lemmas.Bool.Decides.{nat_tests}
use Rattle.omega_net.specs.Wires.{below}
use Rattle.saturation.specs.Levels.{greatest}
use Rattle.saturation.proofs.Below.{from_all, from_not_all}

pub greatest_is : (p : ℕ → Bool) (n j : ℕ) → j ≤ n → p j ≡ true → ((i : ℕ) → j < i → i ≤ n → p i ≡ false) → greatest p n ≡ j
greatest_is p zero j low holds none = omega arith
greatest_is p (suc n) j low holds none = by_test (j == suc n) refl (λ l. greatest_is p n j l holds (λ i a b. none i a (omega arith)))
  where
    by_test : (t : Bool) → (j == suc n) ≡ t → (j ≤ n → greatest p n ≡ j) → cond (p (suc n)) (suc n) (greatest p n) ≡ j
    by_test true e ih =
        let same : j ≡ suc n = eqb-true j (suc n) e in
        let last : p (suc n) ≡ true = ap p (let back : suc n ≡ j = omega (arith, same) in back) ∙ holds in
        rw last (omega (arith, same))
    by_test false e ih =
        let lt : j < suc n = grind (arith, nat_tests) in
        rw (none (suc n) lt (omega arith)) (ih (omega arith))

-- the last j of k stages pass a test, and the one before doesn't, if there is one
pub height_is : (p : ℕ → Bool) (k j : ℕ) → j ≤ k → ((i : ℕ) → k - j ≤ i → i < k → p i ≡ true) → (j < k → p (k - 1 - j) ≡ false)
    → greatest (λ n. list_all p (drop (k - n) (below k))) k ≡ j
height_is p k j low full not_before =
    greatest_is (λ n. list_all p (drop (k - n) (below k))) k j low (from_all p (k - j) k full)
    (λ i above within. from_not_all p (k - i) k (k - 1 - j) (omega arith) (omega arith) (not_before (omega arith)))

-- one stage more passes
pub one_higher : (p : ℕ → Bool) (k j : ℕ) → ((i : ℕ) → k - j ≤ i → i < k → p i ≡ true) → p (k - 1 - j) ≡ true
    → (i : ℕ) → k - (j + 1) ≤ i → i < k → p i ≡ true
one_higher p k j full here i low high = by_test (i == k - 1 - j) refl
  where
    by_test : (t : Bool) → (i == k - 1 - j) ≡ t → p i ≡ true
    by_test true e = ap p (eqb-true i (k - 1 - j) e) ∙ here
    by_test false e = full i (grind (arith, nat_tests)) high
