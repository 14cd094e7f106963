use Rattle.std.proofs.Common.{◌≡◌, None}
use Rattle.machine_cells.specs.Run.{run}
use Rattle.machine_cells.specs.Runs.{state_in}
use Rattle.run_reports.specs.Figures.{first_that}
use Rattle.run_reports.specs.Traces.{holds}
use Rattle.run_reports.proofs.spans.place_of.Given as goal

abbrev pub invariant-loop-number : goal.invariant-loop-number
invariant-loop-number l = first_that (λ c. holds l.tag (state_in (run l.project) l.runner.cycle c)) l.number ≡ None
