-- The plain simulation, row by row.
use Rattle.std.proofs.Common.{◌≡◌, ℕ, zero, suc, ◌+◌, ◌<◌, ◌≤◌, All, List, [], ◌∷◌, ◌++◌, length, map, take, get_or, Result, Ok, Err, refl, ap, sym, ◌∙◌, None, Some, arith, add-one}
use Rattle.std.specs.Prelude.{slice_get, option_map, IfOk}
use Rattle.std.specs.List.{cons_option}
use Rattle.std.proofs.lemmas.List.{length-map, map-append}
use Rattle.std.proofs.lemmas.Option.{slice_get-map, slice_get-get_or}
use Rattle.omega_net.specs.declared.component.Component.{Component}
use Rattle.omega_net.specs.Numbers.{components, component_of}
use Rattle.omega_net.specs.Wires.{below}
use Rattle.omega_net.specs.Near.{near}
use Rattle.project_book.specs.Project.{Project}
use Rattle.machine_cells.specs.declared.state.MachineState.{MachineState}
use Rattle.machine_cells.specs.Cycle.{cycle}
use Rattle.machine_cells.specs.Cells.{states_at, step_of, near_or, pulled}
use Rattle.machine_cells.specs.Run.{first_states, run_from}
use Rattle.machine_cells.specs.GridRules.{first_state, next_state, near_cells, beside_numbers}
use Rattle.machine_cells.specs.laws.Grid.{near_is}
use Rattle.machine_cells.specs.Runs.{StartsAreParts, CellsAreParts}
use Rattle.machine_cells.proofs.Parts.{steps_are_parts}
use Rattle.machine_cells.proofs.Runs.{later, later-suc, run_from-get, length-cycle, row_at, below-get}

-- one component more at cycle 0
pub map-below : (f : ℕ → MachineState) (c : ℕ) → map f (below (c + 1)) ≡ map f (below c) ++ f c ∷ []
map-below f c = rw add-one (map-last f (below c) c)
  where
    map-last : (f : ℕ → MachineState) (xs : List ℕ) (y : ℕ) → map f (xs ++ y ∷ []) ≡ map f xs ++ f y ∷ []
    map-last f [] y = refl
    map-last f (x ∷ xs) y = ap (λ zs. f x ∷ zs) (map-last f xs y)

-- one component more of a later cycle
pub take-more : (xs : List MachineState) (i : ℕ) (x : MachineState) → slice_get xs i ≡ Some x → take (i + 1) xs ≡ take i xs ++ x ∷ []
take-more xs i x e = rw add-one (by_place xs i x e)
  where
    by_place : (xs : List MachineState) (i : ℕ) (x : MachineState) → slice_get xs i ≡ Some x → take (suc i) xs ≡ take i xs ++ x ∷ []
    by_place [] i x e = cc
    by_place (y ∷ ys) zero x e = let same : y ≡ x = cc in ap (λ z. z ∷ []) same
    by_place (y ∷ ys) (suc i) x e = ap (λ zs. y ∷ zs) (by_place ys i x e)

-- the step of the near states of a row
pub next_is_part : (P : Project) (S : List MachineState) (N : List MachineState) (c : ℕ) → length S ≡ components P.k → c < components P.k
    → N ≡ states_at S (near P.k c) → slice_get (cycle P S) c ≡ Some (next_state P N c)
next_is_part P S N c size lt e = by_states N (ap (λ M. step_of P M c) e ∙ steps_are_parts P S size c lt)
  where
    some_in : (xs : List MachineState) (i : ℕ) → i < length xs → slice_get xs i ≡ None → ⊥
    some_in [] i h f = omega arith
    some_in (x ∷ xs) zero h f = cc
    some_in (x ∷ xs) (suc i) h f = some_in xs i (omega arith) f

    by_states : (M : List MachineState) → step_of P M c ≡ slice_get (cycle P S) c → slice_get (cycle P S) c ≡ Some (next_state P M c)
    by_states [] f = absurd (some_in (cycle P S) c (omega (arith, length-cycle P S)) (sym f))
    by_states (own ∷ others) f = sym f

-- one cycle more
pub run_from-more : (P : Project) (S : List MachineState) (t : ℕ) → run_from P S (t + 1) ≡ run_from P S t ++ later P (t + 1) S ∷ []
run_from-more P S t = rw add-one (by_cycle P S t)
  where
    by_cycle : (P : Project) (S : List MachineState) (t : ℕ) → run_from P S (suc t) ≡ run_from P S t ++ later P (suc t) S ∷ []
    by_cycle P S zero = refl
    by_cycle P S (suc t) = ap (λ zs. S ∷ zs) (by_cycle P (cycle P S) t)

pub length-run : (P : Project) (S : List MachineState) (t : ℕ) → length (run_from P S t) ≡ t + 1
length-run P S zero = refl
length-run P S (suc t) = ap suc (length-run P (cycle P S) t) ∙ omega arith

-- the last row of the cycles so far
pub row_is : {A : Type 0} (f : A → List MachineState) (P : Project) (rows : List A) (t : ℕ) (r : A)
    → map f rows ≡ run_from P (first_states P) t → r ≡ get_or rows t r → f r ≡ later P t (first_states P)
row_is f P rows t r e is = some_is (ap (λ x. Some (f x)) is ∙ sym (ap (option_map f) found) ∙ sym (slice_get-map f rows t) ∙ ap (λ xs. slice_get xs t) e ∙ run_from-get P (first_states P) t t (omega arith))
  where
    within : t < length rows
    within = omega (arith, length-map rows f, ap length e, length-run P (first_states P) t)

    found : slice_get rows t ≡ Some (get_or rows t r)
    found = slice_get-get_or rows t r within

    some_is : {X : Type 0} {x y : X} → Some x ≡ Some y → x ≡ y
    some_is h = cc

pub row_size : {A : Type 0} (f : A → List MachineState) (P : Project) (rows : List A) (t : ℕ) (r : A)
    → map f rows ≡ run_from P (first_states P) t → r ≡ get_or rows t r → length (f r) ≡ components P.k
row_size f P rows t r e is = ap length (row_is f P rows t r e is) ∙ (row_at P t).size

pub rows_within : {A : Type 0} (f : A → List MachineState) (P : Project) (rows : List A) (t : ℕ) → map f rows ≡ run_from P (first_states P) t → t < length rows
rows_within f P rows t e = omega (arith, length-map rows f, ap length e, length-run P (first_states P) t)

-- one row more
pub rows_more : {A : Type 0} (f : A → List MachineState) (P : Project) (rows more : List A) (t : ℕ) (r row : A) → more ≡ rows ++ row ∷ []
    → map f rows ≡ run_from P (first_states P) t → r ≡ get_or rows t r → f row ≡ cycle P (f r) → map f more ≡ run_from P (first_states P) (t + 1)
rows_more f P rows more t r row pushed e is stepped =
    ap (map f) pushed
    ∙ map-append f rows (row ∷ [])
    ∙ ap (λ xs. xs ++ f row ∷ []) e
    ∙ ap (λ x. run_from P (first_states P) t ++ x ∷ []) (stepped ∙ ap (cycle P) (row_is f P rows t r e is) ∙ sym (later-suc P t (first_states P)) ∙ ap (λ n. later P n (first_states P)) (sym add_one))
    ∙ sym (run_from-more P (first_states P) t)
  where
    add_one : t + 1 ≡ suc t
    add_one = omega arith

-- what an Ok holds
pub if_ok : {A E : Type 0} (P Q : A → Type 0) → ((x : A) → P x → Q x) → (r : Result A E) → IfOk r P → IfOk r Q
if_ok P Q f (Ok x) h = f x h
if_ok P Q f (Err e) h = h

-- the cells of the grid are parts of whole states
pub starts_are_parts : StartsAreParts
starts_are_parts P c h = slice_get-map (first_state P) (below (components P.k)) c ∙ ap (option_map (first_state P)) (below-get (components P.k) c h)

pub cells_are_parts : CellsAreParts
cells_are_parts P S size c lt = next_is_part P S (states_at S (near_cells P.k c)) c size lt (ap (states_at S) (near_is P.k c lt))

-- so many of some states, from the first on
pub first_of : {A : Type 0} (f : A → MachineState) (n : ℕ) (xs : List A) → map f (take n xs) ≡ take n (map f xs)
first_of f zero [] = refl
first_of f zero (x ∷ xs) = refl
first_of f (suc n) [] = refl
first_of f (suc n) (x ∷ xs) = ap (λ ys. f x ∷ ys) (first_of f n xs)

-- the states of a list of numbers, of those at its five places
pub near_are : (S : List MachineState) (ns : List ℕ) (d : MachineState) (xs : List MachineState) → All (λ n. n < length S) ns → length ns ≤ 5
    → xs ≡ near_or S ns 0 d ∷ near_or S ns 1 d ∷ near_or S ns 2 d ∷ near_or S ns 3 d ∷ near_or S ns 4 d ∷ [] → take (length ns) xs ≡ states_at S ns
near_are S ns d xs there few e = ap (take (length ns)) e ∙ by_length ns few ∙ sym (all_there ns there)
  where
    found : (S : List MachineState) (n : ℕ) (rest : List MachineState) → n < length S → cons_option (slice_get S n) rest ≡ get_or S n d ∷ rest
    found [] n rest h = absurd (omega arith)
    found (x ∷ xs) zero rest h = refl
    found (x ∷ xs) (suc n) rest h = found xs n rest (omega arith)

    all_there : (ns : List ℕ) → All (λ n. n < length S) ns → states_at S ns ≡ map (λ n. get_or S n d) ns
    all_there [] h = refl
    all_there (n ∷ ns) h = found S n (states_at S ns) (h 0 0 (omega arith)) ∙ ap (λ xs. get_or S n d ∷ xs) (all_there ns (λ i e lt. h (suc i) e (omega (arith, lt))))

    by_length : (ns : List ℕ) → length ns ≤ 5
        → take (length ns) (near_or S ns 0 d ∷ near_or S ns 1 d ∷ near_or S ns 2 d ∷ near_or S ns 3 d ∷ near_or S ns 4 d ∷ []) ≡ map (λ n. get_or S n d) ns
    by_length [] h = refl
    by_length (n0 ∷ []) h = refl
    by_length (n0 ∷ n1 ∷ []) h = refl
    by_length (n0 ∷ n1 ∷ n2 ∷ []) h = refl
    by_length (n0 ∷ n1 ∷ n2 ∷ n3 ∷ []) h = refl
    by_length (n0 ∷ n1 ∷ n2 ∷ n3 ∷ n4 ∷ []) h = refl
    by_length (n0 ∷ n1 ∷ n2 ∷ n3 ∷ n4 ∷ n5 ∷ ns) h = absurd (omega arith)

-- a component's state from these near states, of which its own is the first
pub pulled_is_part : (P : Project) (S N : List MachineState) (c : ℕ) (x : Component) (own s : MachineState) → length S ≡ components P.k → c < components P.k
    → N ≡ states_at S (near P.k c) → component_of P.k c ≡ Some x → slice_get S c ≡ Some own → s ≡ pulled P N (Some x) own
    → slice_get (cycle P S) c ≡ Some s
pulled_is_part P S N c x own s size lt states is found e =
    sym (steps_are_parts P S size c lt)
    ∙ ap (λ M. step_of P M c) own_first
    ∙ ap (λ y. Some (pulled P (own ∷ others) y own)) is
    ∙ ap (λ M. Some (pulled P M (Some x) own)) (sym own_first ∙ sym states)
    ∙ ap Some (sym e)
  where
    others : List MachineState
    others = states_at S (beside_numbers P.k (component_of P.k c))

    own_first : states_at S (near P.k c) ≡ own ∷ others
    own_first = sym (ap (states_at S) (near_is P.k c lt)) ∙ ap (λ o. cons_option o others) found

-- the step from near states whose first is this
pub pulled_next : (P : Project) (N : List MachineState) (c : ℕ) (x : Component) (own : MachineState) → slice_get N 0 ≡ Some own → component_of P.k c ≡ Some x
    → pulled P N (Some x) own ≡ next_state P N c
pulled_next P [] c x own e is = cc
pulled_next P (first ∷ others) c x own e is =
    let same : first ≡ own = cc in
    ap (λ y. pulled P (first ∷ others) y own) (sym is) ∙ ap (pulled P (first ∷ others) (component_of P.k c)) (sym same)

-- the first of the near states is the component's own
pub own_first : (P : Project) (S N : List MachineState) (c : ℕ) (own : MachineState) → c < components P.k → N ≡ states_at S (near P.k c) → slice_get S c ≡ Some own
    → slice_get N 0 ≡ Some own
own_first P S N c own lt states found =
    ap (λ M. slice_get M 0) (states ∙ sym (ap (states_at S) (near_is P.k c lt)) ∙ ap (λ o. cons_option o (states_at S (beside_numbers P.k (component_of P.k c)))) found)

-- past a list's end stands what is given for that
pub get_or_missing : (S : List MachineState) (n : ℕ) (d : MachineState) → slice_get S n ≡ None → get_or S n d ≡ d
get_or_missing [] n d e = refl
get_or_missing (x ∷ xs) zero d e = cc
get_or_missing (x ∷ xs) (suc n) d e = get_or_missing xs n d e
