-- Sums of f over the numbers below n.
use Rattle.std.proofs.Common.{◌≡◌, ℕ, zero, suc, ◌+◌, ◌*◌, ◌<◌, ◌≤◌, ◌⊎◌, inl, inr, refl, ap, arith, add-one}
use Rattle.std.proofs.Math.Nat.{mul-suc, mul-zero}
use Rattle.std.proofs.lemmas.Bool.{cases_lt}
use Rattle.monitor_sums.specs.Adding.{sum_below}

-- the sum over no number, and over one more
pub sum_none : (f : ℕ → ℕ) → sum_below f 0 ≡ 0
unfolding sum_below
sum_none f = refl

pub sum_more : (f : ℕ → ℕ) (n : ℕ) → sum_below f (n + 1) ≡ sum_below f n + f n
unfolding sum_below
sum_more f n = rw add-one refl

-- two functions that are equal below n have equal sums
pub sum_below-same : (f g : ℕ → ℕ) (n : ℕ) → ((i : ℕ) → i < n → f i ≡ g i) → sum_below f n ≡ sum_below g n
unfolding sum_below
sum_below-same f g zero same = refl
sum_below-same f g (suc n) same =
    let rest : sum_below f n ≡ sum_below g n = sum_below-same f g n (λ i b. same i (omega arith)) in
    let last : f n ≡ g n = same n (omega arith) in
    omega arith

-- two functions that differ at one number have sums that differ as they do there
pub sum_below-change : (f g : ℕ → ℕ) (j n : ℕ) → j < n → ((i : ℕ) → i < n → (i ≡ j → ⊥) → f i ≡ g i) → sum_below f n + g j ≡ sum_below g n + f j
unfolding sum_below
sum_below-change f g j zero b same = absurd (omega arith)
sum_below-change f g j (suc n) b same = by_place (cases_lt j n) (sum_below-change f g j n)
  where
    by_place : (j < n) ⊎ (n ≤ j) → (j < n → ((i : ℕ) → i < n → (i ≡ j → ⊥) → f i ≡ g i) → sum_below f n + g j ≡ sum_below g n + f j)
        → sum_below f n + f n + g j ≡ sum_below g n + g n + f j
    by_place (inl h) before =
        let rest : sum_below f n + g j ≡ sum_below g n + f j = before h (λ i c apart. same i (omega arith) apart) in
        let last : f n ≡ g n = same n (omega arith) (λ e. omega arith) in
        omega arith
    by_place (inr h) before =
        let here : j ≡ n = omega arith in
        let rest : sum_below f n ≡ sum_below g n = sum_below-same f g n (λ i c. same i (omega arith) (λ e. omega arith)) in
        let f_here : f j ≡ f n = ap f here in
        let g_here : g j ≡ g n = ap g here in
        omega arith

-- a bound on each number's part bounds the sum
pub sum_below-le : (f : ℕ → ℕ) (m n : ℕ) → ((i : ℕ) → i < n → f i ≤ m) → sum_below f n ≤ m * n
unfolding sum_below
sum_below-le f m zero le = omega arith
sum_below-le f m (suc n) le =
    let rest : sum_below f n ≤ m * n = sum_below-le f m n (λ i b. le i (omega arith)) in
    let last : f n ≤ m = le n (omega arith) in
    omega (arith, mul-suc m n)

-- where each number has the same part, the sum is so many times that part
pub sum_below-all : (f : ℕ → ℕ) (m n : ℕ) → ((i : ℕ) → i < n → f i ≡ m) → sum_below f n ≡ m * n
unfolding sum_below
sum_below-all f m zero is = omega (arith, mul-zero m)
sum_below-all f m (suc n) is =
    let rest : sum_below f n ≡ m * n = sum_below-all f m n (λ i b. is i (omega arith)) in
    let last : f n ≡ m = is n (omega arith) in
    omega (arith, mul-suc m n)

-- the sum is at least each number's part
pub sum_below-part : (f : ℕ → ℕ) (j n : ℕ) → j < n → f j ≤ sum_below f n
unfolding sum_below
sum_below-part f j zero b = absurd (omega arith)
sum_below-part f j (suc n) b = by_place (cases_lt j n) (sum_below-part f j n)
  where
    by_place : (j < n) ⊎ (n ≤ j) → (j < n → f j ≤ sum_below f n) → f j ≤ sum_below f n + f n
    by_place (inl h) before = let rest : f j ≤ sum_below f n = before h in omega arith
    by_place (inr h) before = let here : f j ≡ f n = let same : j ≡ n = omega arith in ap f same in omega arith

-- where f is 0 from m on, the sum is that over the numbers below m
pub sum_below-cut : (f : ℕ → ℕ) (m n : ℕ) → m ≤ n → ((i : ℕ) → m ≤ i → i < n → f i ≡ 0) → sum_below f n ≡ sum_below f m
unfolding sum_below
sum_below-cut f m zero b none = let same : zero ≡ m = omega arith in ap (sum_below f) same
sum_below-cut f m (suc n) b none = by_place (cases_lt n m) (sum_below-cut f m n)
  where
    by_place : (n < m) ⊎ (m ≤ n) → (m ≤ n → ((i : ℕ) → m ≤ i → i < n → f i ≡ 0) → sum_below f n ≡ sum_below f m) → sum_below f (suc n) ≡ sum_below f m
    by_place (inl h) before = let same : suc n ≡ m = omega arith in ap (sum_below f) same
    by_place (inr h) before =
        let rest : sum_below f n ≡ sum_below f m = before h (λ i c d. none i c (omega arith)) in
        let last : f n ≡ 0 = none n h (omega arith) in
        omega arith

-- the sum in two parts
pub sum_below-split : (f : ℕ → ℕ) (m n : ℕ) → sum_below f (m + n) ≡ sum_below f m + sum_below (λ i. f (i + m)) n
unfolding sum_below
sum_below-split f m zero = let none : m + zero ≡ m = omega arith in rw none (omega arith)
sum_below-split f m (suc n) =
    let size : m + suc n ≡ suc (m + n) = omega arith in
    let last : n + m ≡ m + n = omega arith in
    let rest : sum_below f (m + n) ≡ sum_below f m + sum_below (λ i. f (i + m)) n = sum_below-split f m n in
    let at_last : f (n + m) ≡ f (m + n) = ap f last in
    rw size (omega arith)

-- the sum of sums
pub sum_below-plus : (f g : ℕ → ℕ) (n : ℕ) → sum_below (λ i. f i + g i) n ≡ sum_below f n + sum_below g n
unfolding sum_below
sum_below-plus f g zero = refl
sum_below-plus f g (suc n) =
    let rest : sum_below (λ i. f i + g i) n ≡ sum_below f n + sum_below g n = sum_below-plus f g n in
    omega arith
