use Rattle.std.proofs.Common.{◌≡◌}
use Rattle.experiments.specs.Logs.{AreLogs}
use Rattle.run_reports.specs.Runners.{IsAt}
use Rattle.experiments.proofs.delays.logs_of.Given as goal

abbrev pub invariant-loop-cycle : goal.invariant-loop-cycle
invariant-loop-cycle l = record {
  at : IsAt l.project l.runner;
  cycle : l.runner.cycle ≡ l._cycle;
  logs : AreLogs l.project l.window.from l._cycle l._cycle l.logs.items;
}
