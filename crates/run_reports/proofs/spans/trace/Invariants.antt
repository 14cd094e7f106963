use Rattle.std.proofs.Common.{◌≡◌}
use Rattle.machine_cells.specs.Run.{run}
use Rattle.machine_cells.specs.Runs.{state_in}
use Rattle.run_reports.specs.Runners.{IsAt}
use Rattle.run_reports.specs.Traces.{spans_before}
use Rattle.run_reports.proofs.spans.trace.Given as goal

abbrev pub invariant-loop-cycle : goal.invariant-loop-cycle
invariant-loop-cycle l = record {
  at : IsAt l.project l.runner;
  cycle : l.runner.cycle ≡ l._cycle;
  spans : l.spans.items ≡ spans_before l.project (state_in (run l.project)) l.tag l._cycle;
}
