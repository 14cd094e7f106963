-- The first cycles of full queues, cycle by cycle.
use Rattle.std.proofs.Common.{◌≡◌, ℕ, ◌+◌, List, [], ◌∷◌, map, refl, sym, ap, ap₂, ◌∙◌, Option, add-one}
use Rattle.std.specs.Prelude.{slice_get, option_and_then}
use Rattle.project_book.specs.Project.{Project}
use Rattle.machine_cells.specs.declared.state.MachineState.{MachineState}
use Rattle.machine_cells.specs.Run.{run}
use Rattle.machine_cells.specs.Runs.{state_in}
use Rattle.flat_row.specs.Row.{states_of}
use Rattle.run_reports.specs.declared.full_queues.PartQueue.{PartQueue}
use Rattle.run_reports.specs.declared.full_queues.FirstFull.{FirstFull}
use Rattle.run_reports.specs.declared.runner.Runner.{Runner}
use Rattle.run_reports.specs.Filling.{never, with_cycle, AreFirst}
use Rattle.run_reports.specs.FullQueues.{first_full, queues}
use Rattle.run_reports.specs.Runners.{IsAt}

one_more : (P : Project) (at : ℕ → ℕ → Option MachineState) (t : ℕ) (q : PartQueue) → with_cycle P (at t) t (first_full P at t q) ≡ first_full P at (t + 1) q
one_more P at t q = rw add-one refl

all_more : (P : Project) (at : ℕ → ℕ → Option MachineState) (t : ℕ) (qs : List PartQueue)
    → map (with_cycle P (at t) t) (map (first_full P at t) qs) ≡ map (first_full P at (t + 1)) qs
all_more P at t [] = refl
all_more P at t (q ∷ qs) = ap₂ (λ (f : FirstFull) (fs : List FirstFull). f ∷ fs) (one_more P at t q) (all_more P at t qs)

-- before the first cycle
pub at_first : (P : Project) (qs : List PartQueue) (fs : List FirstFull) → qs ≡ queues P.k → fs ≡ map never qs → AreFirst P 0 fs
at_first P qs fs are is = is ∙ ap (map never) are

-- the states of one cycle more are seen
pub cycle_more : (P : Project) (r : Runner) (states : List MachineState) (before new : List FirstFull) → IsAt P r → states ≡ states_of r.row
    → new ≡ map (with_cycle P (slice_get states) r.cycle) before → AreFirst P r.cycle before → AreFirst P (r.cycle + 1) new
cycle_more P r states before new at shown is are =
    is ∙ ap (λ (S : List MachineState). map (with_cycle P (slice_get S) r.cycle) before) shown
    ∙ ap (λ (fs : List FirstFull). map (with_cycle P (slice_get (states_of r.row)) r.cycle) fs) are
    ∙ sym (ap (λ (o : Option (List MachineState)). map (with_cycle P (λ c. option_and_then (λ (S : List MachineState). slice_get S c) o) r.cycle) firsts) at.states)
    ∙ all_more P (state_in (run P)) r.cycle (queues P.k)
  where
    firsts : List FirstFull
    firsts = map (first_full P (state_in (run P)) r.cycle) (queues P.k)
