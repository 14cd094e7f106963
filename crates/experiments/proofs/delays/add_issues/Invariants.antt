use Rattle.std.proofs.Common.{◌≡◌, ◌+◌, ◌^◌, ℕ, length}
use Rattle.experiments.specs.Logs.{AreLogs, IsLog}
use Rattle.experiments.proofs.Logging.{Partly}
use Rattle.experiments.proofs.delays.add_issues.Given as goal

abbrev pub invariant-loop-proc : goal.invariant-loop-proc
invariant-loop-proc l = record {
  many : length l.logs.items ≡ 2 ^ l.project.k;
  logs : (from : ℕ) → AreLogs l.project from l.runner.cycle l.runner.cycle l.initial.logs.items
      → Partly (IsLog l.project from (l.runner.cycle + 1) l.runner.cycle) (IsLog l.project from l.runner.cycle l.runner.cycle) l.proc (2 ^ l.project.k) l.logs.items;
}
