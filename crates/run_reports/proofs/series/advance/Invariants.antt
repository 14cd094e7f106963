use Rattle.std.proofs.Common.{◌≡◌}
use Rattle.run_reports.specs.Runners.{IsAt}
use Rattle.run_reports.proofs.series.advance.Given as goal

abbrev pub invariant-loop-cycle : goal.invariant-loop-cycle
invariant-loop-cycle l = record {
  at : IsAt l.project l.runner;
  cycle : l.runner.cycle ≡ l._cycle;
}
