-- The run of the machine as a grid is the list of its whole states by `cycle`.
use Rattle.std.proofs.Common.{◌≡◌, ℕ, zero, suc, ◌<◌, ◌≤◌, Bool, true, false, List, [], ◌∷◌, ◌++◌, length, All, refl, ap, sym, ◌∙◌, Some, map, arith}
use Rattle.std.specs.Prelude.{slice_get, option_and_then, option_map, ◌==◌}
use Rattle.std.specs.List.{cons_option}
use Rattle.std.proofs.lemmas.Bool.{eqb-true}
use Rattle.std.proofs.lemmas.Bool.Decides.{nat_tests}
use Rattle.std.proofs.lemmas.Option.{slice_get-map}
use Rattle.std.proofs.lemmas.List.{length-map, length-append}
use Rattle.std.proofs.lemmas.List.Elements.{All-head, All-tail}
use Rattle.grid_law.specs.Run.{run as grid_run}
use Rattle.omega_net.specs.Numbers.{components}
use Rattle.omega_net.specs.Wires.{below}
use Rattle.machine_cells.specs.declared.state.MachineState.{MachineState}
use Rattle.project_book.specs.Project.{Project}
use Rattle.machine_cells.specs.Moves.{Move, moves}
use Rattle.machine_cells.specs.Cycle.{cycle, parts_from}
use Rattle.machine_cells.specs.Run.{first_states, run_from}
use Rattle.machine_cells.specs.Cells.{states_at, step_of}
use Rattle.machine_cells.specs.GridRules.{rp3_rules, near_cells, first_state}
use Rattle.machine_cells.specs.laws.Grid.{near_is, cells_within}
use Rattle.machine_cells.specs.Runs.{RunsAreOne}
use Rattle.machine_cells.proofs.Parts.{steps_are_parts}

-- the numbers below n, by their places
pub length-below : (n : ℕ) → length (below n) ≡ n
length-below zero = refl
length-below (suc n) = length-append (below n) (n ∷ []) ∙ omega (arith, length-below n)

get-last : (xs : List ℕ) (y i : ℕ) → i ≡ length xs → slice_get (xs ++ y ∷ []) i ≡ Some y
get-last [] y i e = rw e refl
get-last (x ∷ xs) y zero e = absurd (omega arith)
get-last (x ∷ xs) y (suc i) e = get-last xs y i (omega arith)

get-before : (xs : List ℕ) (y i : ℕ) → i < length xs → slice_get (xs ++ y ∷ []) i ≡ slice_get xs i
get-before [] y i h = absurd (omega arith)
get-before (x ∷ xs) y zero h = refl
get-before (x ∷ xs) y (suc i) h = get-before xs y i (omega arith)

pub below-get : (n c : ℕ) → c < n → slice_get (below n) c ≡ Some c
below-get zero c h = absurd (omega arith)
below-get (suc n) c h = by_test (c == n) refl (below-get n c)
  where
    by_test : (t : Bool) → (c == n) ≡ t → (c < n → slice_get (below n) c ≡ Some c) → slice_get (below n ++ n ∷ []) c ≡ Some c
    by_test true e ih =
        let same : c ≡ n = eqb-true c n e in
        get-last (below n) n c (same ∙ sym (length-below n)) ∙ ap Some (sym same)
    by_test false e ih =
        let lt : c < n = grind (arith, nat_tests) in
        get-before (below n) n c (omega (arith, length-below n)) ∙ ih lt

-- the whole state so many cycles later
abbrev pub later : Project → ℕ → List MachineState → List MachineState
later P zero S = S
later P (suc t) S = later P t (cycle P S)

pub later-suc : (P : Project) (t : ℕ) (S : List MachineState) → later P (suc t) S ≡ cycle P (later P t S)
later-suc P zero S = refl
later-suc P (suc t) S = later-suc P t (cycle P S)

pub run_from-get : (P : Project) (S : List MachineState) (n t : ℕ) → t ≤ n → slice_get (run_from P S n) t ≡ Some (later P t S)
run_from-get P S zero zero h = refl
run_from-get P S zero (suc t) h = absurd (omega arith)
run_from-get P S (suc n) zero h = refl
run_from-get P S (suc n) (suc t) h = run_from-get P (cycle P S) n t (omega arith)

-- a cycle keeps the number of components
length-parts : (P : Project) (M : List Move) (c : ℕ) (S : List MachineState) → length (parts_from P M c S) ≡ length S
length-parts P M c [] = refl
length-parts P M c (s ∷ S) = ap suc (length-parts P M (suc c) S)

pub length-cycle : (P : Project) (S : List MachineState) → length (cycle P S) ≡ length S
length-cycle P S = length-parts P (moves P S) 0 S

pub length-first : (P : Project) → length (first_states P) ≡ components P.k
length-first P = length-map (below (components P.k)) (first_state P) ∙ length-below (components P.k)

-- the near states, where each component's is known
states_are : (S : List MachineState) (f : ℕ → MachineState) (n : ℕ) → ((c : ℕ) → c < n → slice_get S c ≡ Some (f c))
    → (cs : List ℕ) → All (λ m. m < n) cs → states_at S cs ≡ map f cs
states_are S f n h [] a = refl
states_are S f n h (c ∷ cs) a =
    ap (λ o. cons_option o (states_at S cs)) (h c (All-head (λ m. m < n) c cs a))
    ∙ ap (λ xs. f c ∷ xs) (states_are S f n h cs (All-tail (λ m. m < n) c cs a))

pub record Row (P : Project) (t : ℕ) : Type 0 where
  pub size : length (later P t (first_states P)) ≡ components P.k
  pub states : (c : ℕ) → c < components P.k → slice_get (later P t (first_states P)) c ≡ Some (grid_run rp3_rules P t c)

pub row_at : (P : Project) (t : ℕ) → Row P t
row_at P zero = record {
  size = length-first P;
  states = λ c h. slice_get-map (first_state P) (below (components P.k)) c ∙ ap (option_map (first_state P)) (below-get (components P.k) c h);
}
row_at P (suc t) = from_row (row_at P t)
  where
    S : List MachineState
    S = later P t (first_states P)

    from_row : Row P t → Row P (suc t)
    from_row row = record {
      size = ap length (later-suc P t (first_states P)) ∙ length-cycle P (later P t (first_states P)) ∙ row.size;
      states = λ c h.
          ap (λ T. slice_get T c) (later-suc P t (first_states P))
          ∙ sym (steps_are_parts P (later P t (first_states P)) row.size c h)
          ∙ ap (λ N. step_of P N c) (ap (states_at (later P t (first_states P))) (sym (near_is P.k c h))
          ∙ states_are (later P t (first_states P)) (grid_run rp3_rules P t) (components P.k) row.states (near_cells P.k c) (cells_within P.k c h));
    }

pub runs_are_one : RunsAreOne
runs_are_one P t c h lt =
    ap (option_and_then (λ T. slice_get T c)) (run_from-get P (first_states P) P.horizon t h) ∙ (row_at P t).states c lt
