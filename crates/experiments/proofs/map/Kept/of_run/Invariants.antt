use Rattle.std.proofs.Common.{◌≡◌, ◌+◌}
use Rattle.experiments.specs.Lengths.{IsKept}
use Rattle.run_reports.specs.Runners.{IsAt}
use Rattle.experiments.proofs.map.Kept.of_run.Given as goal

abbrev pub invariant-loop-cycle : goal.invariant-loop-cycle
invariant-loop-cycle l = record {
  at : IsAt l.project l.runner;
  cycle : l.runner.cycle ≡ l._cycle;
  scope : l.kept.scope ≡ l.fn.scope;
  kept : IsKept l.project (l._cycle + 1) l.kept;
}
