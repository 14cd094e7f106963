use Rattle.std.proofs.Common.{◌≡◌, ◌+◌, ◌*◌, ◌^◌, ◌≤◌}
use Rattle.std.specs.Prelude.{min}
use Rattle.monitor_sums.specs.Whole.{counted_before}
use Rattle.monitor_sums.proofs.sums.Sums.total.Given as goal

abbrev pub invariant-loop-block : goal.invariant-loop-block
invariant-loop-block l = record {
  value : l.total ≡ counted_before l.self.k l.counter l.self.cells l.who 0 (min (32 * l.block) (l.self.last + 1));
  bound : l.total ≤ 2 ^ 32 * l.block;
}
