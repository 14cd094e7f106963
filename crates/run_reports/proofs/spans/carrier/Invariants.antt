use Rattle.std.proofs.Common.{◌≡◌}
use Rattle.machine_cells.specs.Run.{run}
use Rattle.machine_cells.specs.Runs.{state_in}
use Rattle.run_reports.specs.Traces.{carrier_after}
use Rattle.run_reports.proofs.spans.carrier.Given as goal

abbrev pub invariant-loop-stage : goal.invariant-loop-stage
invariant-loop-stage l = l.carrier ≡ carrier_after l.project.k (state_in (run l.project) l.runner.cycle) l.fn.tag l._stage
