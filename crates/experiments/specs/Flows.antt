-- What came of each cycle of a run.
use Rattle.std.specs.Prelude.{◌≡◌, ◌≤◌, ℕ, ◌+◌, ◌-◌, List, length, slice_index, Option, None, Result, Ok, Err}
use Rattle.machine_cells.specs.declared.state.MachineState.{MachineState}
use Rattle.project_book.specs.Project.{Project}
use Rattle.monitor_sums.specs.Adding.{sum_below}
use Rattle.monitor_sums.specs.Counts.{count}
use Rattle.monitor_sums.specs.declared.counter.Counter.{Counter}
use Rattle.monitor_sums.specs.declared.counter.Counter.TheVariants as counter
use Rattle.run_queries.specs.declared.query.Query.TheVariants.{Counter as CountOf}
use Rattle.run_queries.specs.declared.body.Body.TheVariants.{Count as Counts}
use Rattle.run_queries.specs.Answers.{answer}
use Rattle.experiments.specs.declared.fault.Fault.{Fault}
use Rattle.experiments.specs.declared.fault.Fault.TheVariants as fault
use Rattle.experiments.specs.declared.flows.Flows.{Flows}
use Rattle.experiments.specs.declared.load.Load.{Load}
use Rattle.experiments.specs.Loads.{loaded, IsLoad}

-- what the first n components count at cycle t
abbrev pub counted_at : Counter → (ℕ → ℕ → Option MachineState) → ℕ → ℕ → ℕ
counted_at counter at n t = sum_below (λ c. count counter (at t c)) n

-- the sum of the numbers at the places from one to another
abbrev pub sum_between : List ℕ → ℕ → ℕ → ℕ
sum_between numbers from to = sum_below (λ i. slice_index numbers (i + from)) (to + 1 - from)

-- a number for each cycle of a run, of which those of a window add up to what the workbench answers for a counter
abbrev pub IsFlow : Project → Counter → List ℕ → Type 0
IsFlow P counter flow = (length flow ≡ P.horizon + 1) × ((from to : ℕ) → from ≤ to → to ≤ P.horizon
    → answer P (CountOf counter None from to) ≡ Ok (Counts (sum_between flow from to)))

-- why a load has no run: there is no such machine, and only where there is one want of memory
abbrev pub IsNoRun : Load → Fault → Type 0
IsNoRun load fault.Load = IsLoad load → ⊥
IsNoRun load fault.Memory = IsLoad load
IsNoRun load _ = ⊥

-- what is answered for a load: what came of its run, or why there is none
abbrev pub AreFlows : Load → Result Flows Fault → Type 0
AreFlows load (Ok flows) = IsLoad load × IsFlow (loaded load) counter.Answered flows.answered.items × IsFlow (loaded load) counter.Served flows.served.items
AreFlows load (Err f) = IsNoRun load f
