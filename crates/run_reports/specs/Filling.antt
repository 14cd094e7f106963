-- What is kept of full queues while a run is stepped.
use Rattle.std.specs.Prelude.{◌≡◌, ℕ, if◌then◌else◌, List, map, Option, None, Some}
use Rattle.project_book.specs.Project.{Project}
use Rattle.machine_cells.specs.declared.state.MachineState.{MachineState}
use Rattle.machine_cells.specs.Run.{run}
use Rattle.machine_cells.specs.Runs.{state_in}
use Rattle.run_queries.specs.Answers.{first_of}
use Rattle.run_reports.specs.declared.full_queues.PartQueue.{PartQueue}
use Rattle.run_reports.specs.declared.full_queues.FirstFull.{FirstFull}
use Rattle.run_reports.specs.FullQueues.{first_full, is_full, queues}

-- a queue that was full at no cycle yet
abbrev pub never : PartQueue → FirstFull
never q = record { queue = q; cycle = None }

-- a queue's first cycle, with what these states of cycle t show
abbrev pub with_cycle : Project → (ℕ → Option MachineState) → ℕ → FirstFull → FirstFull
with_cycle P S t f = record f { cycle = first_of f.cycle (if is_full P f.queue.part (S f.queue.place) then Some t else None) }

-- these are the first cycles of all queues, of the cycles before t
abbrev pub AreFirst : Project → ℕ → List FirstFull → Type 0
AreFirst P t fs = fs ≡ map (first_full P (state_in (run P)) t) (queues P.k)
