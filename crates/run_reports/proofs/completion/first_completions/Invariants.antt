use Rattle.std.proofs.Common.{◌≡◌, map}
use Rattle.omega_net.specs.Wires.{below}
use Rattle.machine_cells.specs.Run.{run}
use Rattle.machine_cells.specs.Runs.{state_in}
use Rattle.run_reports.specs.Completions.{completion_of}
use Rattle.run_reports.proofs.completion.first_completions.Given as goal

abbrev pub invariant-loop-proc : goal.invariant-loop-proc
invariant-loop-proc l = l.all.items ≡ map (completion_of l.project (state_in (run l.project)) 0) (below l.proc)
