use Rattle.std.proofs.Common.{◌≡◌, None}
use Rattle.machine_cells.specs.Run.{run}
use Rattle.machine_cells.specs.Runs.{state_in}
use Rattle.run_reports.specs.Traces.{combined_at, first_there}
use Rattle.run_reports.proofs.spans.carried_by.Given as goal

abbrev pub invariant-loop-number : goal.invariant-loop-number
invariant-loop-number l = first_there (λ c. combined_at l.tag (state_in (run l.project) l.runner.cycle c)) l.number ≡ None
