use Rattle.std.proofs.Common.{◌≡◌, ◌+◌, ◌^◌, length}
use Rattle.run_reports.specs.Logs.{AreLogs, IsLog}
use Rattle.run_reports.proofs.Logging.{Partly}
use Rattle.run_reports.proofs.reference.add_cycle.Given as goal

abbrev pub invariant-loop-proc : goal.invariant-loop-proc
invariant-loop-proc l = record {
  many : length l.logs.items ≡ 2 ^ l.project.k;
  logs : AreLogs l.project l.runner.cycle l.initial.logs.items
      → Partly (IsLog l.project (l.runner.cycle + 1)) (IsLog l.project l.runner.cycle) l.proc (2 ^ l.project.k) l.logs.items;
}
