-- What is kept of completions while a run is stepped.
use Rattle.std.specs.Prelude.{◌≡◌, ℕ, ◌^◌, List, map}
use Rattle.omega_net.specs.Wires.{below}
use Rattle.project_book.specs.Project.{Project}
use Rattle.machine_cells.specs.Run.{run}
use Rattle.machine_cells.specs.Runs.{state_in}
use Rattle.run_reports.specs.declared.completion.Completion.{Completion}
use Rattle.run_reports.specs.Completions.{completion_of}

-- these are the completions of all processors in the cycles before t
abbrev pub AreCompletions : Project → ℕ → List Completion → Type 0
AreCompletions P t cs = cs ≡ map (completion_of P (state_in (run P)) t) (below (2 ^ P.k))
