use Rattle.std.proofs.Common.{◌≡◌}
use Rattle.run_reports.specs.Runners.{IsAt}
use Rattle.machine_page.proofs.cycles.advance.Given as goal

abbrev pub invariant-loop-cycle : goal.invariant-loop-cycle
invariant-loop-cycle l = record {
  at : IsAt l.project l.runner;
  cycle : l.runner.cycle ≡ l._cycle;
}
