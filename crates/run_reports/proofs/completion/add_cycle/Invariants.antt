use Rattle.std.proofs.Common.{◌+◌, ◌^◌}
use Rattle.machine_cells.specs.Run.{run}
use Rattle.machine_cells.specs.Runs.{state_in}
use Rattle.run_reports.specs.Completions.{completion_of}
use Rattle.run_reports.proofs.Marking.{Partly}
use Rattle.run_reports.proofs.completion.add_cycle.Given as goal

abbrev pub invariant-loop-proc : goal.invariant-loop-proc
invariant-loop-proc l =
    Partly (completion_of l.project (state_in (run l.project)) (l.runner.cycle + 1)) (completion_of l.project (state_in (run l.project)) l.runner.cycle)
    l.proc (2 ^ l.project.k) l.all.items
