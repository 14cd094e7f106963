-- Rows that have the lengths of queues, cycle by cycle, and their columns.
use Rattle.std.proofs.Common.{◌≡◌, ℕ, ◌+◌, ◌-◌, ◌<◌, List, [], ◌∷◌, length, get_or, map, refl, sym, ap, ap₂, ◌∙◌, Option, Some, arith}
use Rattle.std.specs.Prelude.{◌++◌, slice_get, option_map, option_and_then, unwrap_or}
use Rattle.std.proofs.lemmas.List.{length-map, same_lists}
use Rattle.std.proofs.lemmas.Option.{slice_get-get_or, slice_get-map, get_or_from_slice_get}
use Rattle.omega_net.specs.Wires.{below}
use Rattle.project_book.specs.Project.{Project}
use Rattle.machine_cells.specs.declared.state.MachineState.{MachineState}
use Rattle.machine_cells.specs.Run.{run}
use Rattle.machine_cells.specs.Runs.{state_in}
use Rattle.machine_cells.proofs.Runs.{below-get, length-below}
use Rattle.flat_row.specs.Row.{states_of}
use Rattle.run_reports.specs.declared.condition.Window.{Window}
use Rattle.run_reports.specs.declared.full_queues.Part.TheVariants.{Wait}
use Rattle.run_reports.specs.declared.full_queues.PartQueue.{PartQueue}
use Rattle.run_reports.specs.declared.runner.Runner.{Runner}
use Rattle.run_reports.specs.Gauges.{queue_length}
use Rattle.run_reports.specs.Lengths.{column_at, lengths_at, lengths_of}
use Rattle.run_reports.specs.Runners.{IsAt}
use Rattle.run_reports.proofs.Marking.{one_more_value}

abbrev length_at : (ℕ → Option MachineState) → PartQueue → ℕ
length_at S q = queue_length q.part (S q.place)

-- what stands at a queue's place are its lengths
column_is : (qs : List PartQueue) (S : ℕ → ℕ → Option MachineState) (is : List ℕ) (j : ℕ) (q : PartQueue) → slice_get qs j ≡ Some q
    → column_at (map (λ i. lengths_at qs (S i)) is) j ≡ map (λ i. length_at (S i) q) is
column_is qs S [] j q there = refl
column_is qs S (i ∷ is) j q there =
    ap₂ (λ (n : ℕ) (ns : List ℕ). n ∷ ns)
    (ap (λ (o : Option ℕ). unwrap_or o 0) (slice_get-map (length_at (S i)) qs j ∙ ap (option_map (length_at (S i))) there))
    (column_is qs S is j q there)

-- so the columns are the lengths of each
columns_are : (qs : List PartQueue) (S : ℕ → ℕ → Option MachineState) (is : List ℕ)
    → map (column_at (map (λ i. lengths_at qs (S i)) is)) (below (length qs)) ≡ map (λ q. map (λ i. length_at (S i) q) is) qs
columns_are qs S is =
    let column : ℕ → List ℕ = column_at (map (λ i. lengths_at qs (S i)) is) in
    let row : PartQueue → List ℕ = λ q. map (λ i. length_at (S i) q) is in
    let all : length (map column (below (length qs))) ≡ length qs = length-map (below (length qs)) column ∙ length-below (length qs) in
    same_lists (map column (below (length qs))) (map row qs) (all ∙ sym (length-map qs row)) (λ j d less.
    let within : j < length qs = omega (arith, less, all) in
    let q : PartQueue = get_or qs j (record { place = 0; part = Wait }) in
    let there : slice_get qs j ≡ Some q = slice_get-get_or qs j (record { place = 0; part = Wait }) within in
    get_or_from_slice_get (map column (below (length qs))) j (column j) d (slice_get-map column (below (length qs)) j ∙ ap (option_map column) (below-get (length qs) j within))
    ∙ column_is qs S is j q there
    ∙ sym (get_or_from_slice_get (map row qs) j (row q) d (slice_get-map row qs j ∙ ap (option_map row) there)))

pub columns_over : (qs : List PartQueue) (at : ℕ → ℕ → Option MachineState) (w : Window) (rows : List (List ℕ))
    → rows ≡ map (λ i. lengths_at qs (at (w.from + i))) (below (w.to + 1 - w.from))
    → map (column_at rows) (below (length qs)) ≡ map (lengths_of at w) qs
columns_over qs at w rows are =
    ap (λ (rs : List (List ℕ)). map (column_at rs) (below (length qs))) are ∙ columns_are qs (λ i. at (w.from + i)) (below (w.to + 1 - w.from))

-- the states of one cycle more are seen
pub cycle_shown : (P : Project) (r : Runner) (qs : List PartQueue) (first n : ℕ) (old new : List (List ℕ)) (now : List ℕ) → IsAt P r → r.cycle ≡ first + n
    → now ≡ lengths_at qs (slice_get (states_of r.row)) → new ≡ old ++ now ∷ []
    → old ≡ map (λ i. lengths_at qs (state_in (run P) (first + i))) (below n)
    → new ≡ map (λ i. lengths_at qs (state_in (run P) (first + i))) (below (n + 1))
cycle_shown P r qs first n old new now at here is more are =
    more ∙ ap₂ (λ (ls : List (List ℕ)) (l : List ℕ). ls ++ l ∷ []) are (is ∙ seen) ∙ sym (one_more_value (λ i. lengths_at qs (state_in (run P) (first + i))) n)
  where
    shown : slice_get (run P) (first + n) ≡ Some (states_of r.row)
    shown = ap (slice_get (run P)) (sym here) ∙ at.states

    seen : lengths_at qs (slice_get (states_of r.row)) ≡ lengths_at qs (state_in (run P) (first + n))
    seen = sym (ap (λ (o : Option (List MachineState)). lengths_at qs (λ c. option_and_then (λ (S : List MachineState). slice_get S c) o)) shown)
