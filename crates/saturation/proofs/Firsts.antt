-- The first number that passes a test.
use Rattle.std.proofs.Common.{◌≡◌, ℕ, zero, suc, ◌+◌, ◌<◌, Bool, true, false, cond, List, [], ◌∷◌, map, find, None, Some, refl, ap, sym, ◌∙◌, arith}
use Rattle.std.specs.Prelude.{◌==◌, nat_le, slice_index, option_map}
use Rattle.std.specs.Option.{option_or}
use Rattle.std.proofs.lemmas.Bool.{eqb-true}
use Rattle.std.proofs.lemmas.Bool.Decides.{nat_tests}
use Rattle.std.proofs.lemmas.List.Folds.{find-append}
use Rattle.std.proofs.lemmas.Option.{slice_get-map, get_or_from_slice_get}
use Rattle.omega_net.specs.Wires.{below}
use Rattle.machine_cells.proofs.Runs.{below-get}

pub none_found : (p : ℕ → Bool) (n : ℕ) → ((i : ℕ) → i < n → p i ≡ false) → find p (below n) ≡ None
none_found p zero h = refl
none_found p (suc n) h = find-append p (below n) (n ∷ []) ∙ rw (none_found p n (λ i l. h i (omega arith)), h n (omega arith)) refl

pub first_found : (p : ℕ → Bool) (n c : ℕ) → c < n → ((i : ℕ) → i < c → p i ≡ false) → p c ≡ true → find p (below n) ≡ Some c
first_found p zero c low none e = absurd (omega arith)
first_found p (suc n) c low none e = find-append p (below n) (n ∷ []) ∙ by_test (c == n) refl (λ l. first_found p n c l none e)
  where
    by_test : (t : Bool) → (c == n) ≡ t → (c < n → find p (below n) ≡ Some c) → option_or (find p (below n)) (cond (p n) (Some n) None) ≡ Some c
    by_test true f ih =
        let same : c ≡ n = eqb-true c n f in
        let none_before : find p (below n) ≡ None = none_found p n (λ i l. none i (omega (arith, same))) in
        let here : p n ≡ true = ap p (let back : n ≡ c = omega (arith, same) in back) ∙ e in
        rw (none_before, here) (ap Some (let back : n ≡ c = omega (arith, same) in back))
    by_test false f ih =
        let lt : c < n = grind (arith, nat_tests) in
        rw (ih lt) refl

-- tests that agree find the same
pub same_found : (p q : ℕ → Bool) (n : ℕ) → ((i : ℕ) → i < n → p i ≡ q i) → find p (below n) ≡ find q (below n)
same_found p q zero h = refl
same_found p q (suc n) h =
    find-append p (below n) (n ∷ [])
    ∙ rw (same_found p q n (λ i l. h i (omega arith)), h n (omega arith)) (sym (find-append q (below n) (n ∷ [])))

map_same : {X : Type 0} (f g : ℕ → X) (xs : List ℕ) → ((x : ℕ) → f x ≡ g x) → map f xs ≡ map g xs
map_same f g [] h = refl
map_same f g (x ∷ xs) h = rw (h x, map_same f g xs h) refl

-- what is found in a list of values is found among the values
pub firsts_are : (levels : List ℕ) (value : ℕ → ℕ) (n k : ℕ) → levels ≡ map value (below n)
    → map (λ j. find (λ t. nat_le (j + 1) (slice_index levels t)) (below n)) (below k)
    ≡ map (λ j. find (λ t. nat_le (j + 1) (value t)) (below n)) (below k)
firsts_are levels value n k made = map_same _ _ (below k) (λ j. same_found _ _ n (λ t lt. ap (nat_le (j + 1)) (at t lt)))
  where
    at : (t : ℕ) → t < n → slice_index levels t ≡ value t
    at t lt =
        ap (λ xs. slice_index xs t) made
        ∙ get_or_from_slice_get (map value (below n)) t (value t) 0 (slice_get-map value (below n) t ∙ ap (option_map value) (below-get n t lt))
