-- Tests that the numbers below n pass.
use Rattle.std.proofs.Common.{◌≡◌, ℕ, ◌+◌, ◌-◌, ◌<◌, ◌≤◌, Bool, true, false, [], ◌∷◌, ◌++◌, length, get_or, drop, map, refl, ap, ◌∙◌, arith, add-one}
use Rattle.std.specs.Prelude.{◌==◌}
use Rattle.std.specs.List.{list_all}
use Rattle.std.proofs.lemmas.Bool.{eqb-true}
use Rattle.std.proofs.lemmas.Bool.Decides.{nat_tests}
use Rattle.std.proofs.lemmas.List.{length-drop, get_or-drop, map-append}
use Rattle.std.proofs.lemmas.List.Folds.{list_all_at}
use Rattle.std.proofs.lemmas.List.Sums.{list_all-from_AllPass}
use Rattle.std.proofs.lemmas.Option.{get_or_from_slice_get}
use Rattle.omega_net.specs.Wires.{below}
use Rattle.machine_cells.proofs.Runs.{length-below, below-get}

pub below-at : (n i d : ℕ) → i < n → get_or (below n) i d ≡ i
below-at n i d h = get_or_from_slice_get (below n) i i d (below-get n i h)

-- what is left of them from d on
from-length : (d n : ℕ) → length (drop d (below n)) ≡ n - d
from-length d n = length-drop d (below n) ∙ ap (λ l. l - d) (length-below n)

from-at : (d n i e : ℕ) → d + i < n → get_or (drop d (below n)) i e ≡ d + i
from-at d n i e h = get_or-drop d (below n) i e ∙ below-at n (d + i) e h

-- where all from d on pass a test, and where one doesn't
pub from_all : (p : ℕ → Bool) (d n : ℕ) → ((i : ℕ) → d ≤ i → i < n → p i ≡ true) → list_all p (drop d (below n)) ≡ true
from_all p d n h = list_all-from_AllPass p (drop d (below n)) (λ i e lt.
    let within : d + i < n = omega (arith, lt, from-length d n) in
    ap p (from-at d n i e within) ∙ h (d + i) (omega arith) within)

pub from_not_all : (p : ℕ → Bool) (d n i : ℕ) → d ≤ i → i < n → p i ≡ false → list_all p (drop d (below n)) ≡ false
from_not_all p d n i low high e =
    let there : i - d < length (drop d (below n)) = omega (arith, from-length d n) in
    let same : d + (i - d) ≡ i = omega arith in
    list_all_at p (drop d (below n)) (i - d) 0 there (ap p (from-at d n (i - d) 0 (omega arith) ∙ same) ∙ e)

-- the same of all of them
pub below_all : (p : ℕ → Bool) (n : ℕ) → ((i : ℕ) → i < n → p i ≡ true) → list_all p (below n) ≡ true
below_all p n h = from_all p 0 n (λ i low. h i)

pub below_not_all : (p : ℕ → Bool) (n i : ℕ) → i < n → p i ≡ false → list_all p (below n) ≡ false
below_not_all p n i h e = from_not_all p 0 n i (omega arith) h e

-- one number more
pub map-next : {X : Type 0} (f : ℕ → X) (n : ℕ) → map f (below (n + 1)) ≡ map f (below n) ++ f n ∷ []
map-next f n = rw add-one (map-append f (below n) (n ∷ []))

-- a test that goes one way at all below n, and at n too
both_next : (p : ℕ → Bool) (b : Bool) (n : ℕ) → ((i : ℕ) → i < n → p i ≡ b) → p n ≡ b → (i : ℕ) → i < n + 1 → p i ≡ b
both_next p b n h e i lt = by_test (i == n) refl
  where
    by_test : (t : Bool) → (i == n) ≡ t → p i ≡ b
    by_test true f = ap p (eqb-true i n f) ∙ e
    by_test false f = h i (grind (arith, nat_tests))

pub all_and_next : (p : ℕ → Bool) (n : ℕ) → ((i : ℕ) → i < n → p i ≡ true) → p n ≡ true → (i : ℕ) → i < n + 1 → p i ≡ true
all_and_next p n = both_next p true n

pub none_and_next : (p : ℕ → Bool) (n : ℕ) → ((i : ℕ) → i < n → p i ≡ false) → p n ≡ false → (i : ℕ) → i < n + 1 → p i ≡ false
none_and_next p n = both_next p false n
