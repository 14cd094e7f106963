use Rattle.std.proofs.Common.{◌≡◌, ◌+◌, ◌-◌, ◌*◌, ◌^◌, ◌≤◌}
use Rattle.monitor_sums.specs.Whole.{counted_before}
use Rattle.monitor_sums.proofs.sums.Sums.sum.Given as goal

abbrev pub decreases-loop-cycle : goal.decreases-loop-cycle
decreases-loop-cycle l = l.to + 1 - l.cycle

abbrev pub invariant-loop-cycle : goal.invariant-loop-cycle
invariant-loop-cycle l = record {
  began : l.from ≤ l.cycle;
  within : l.cycle ≤ l.to + 1;
  value : l.total ≡ counted_before l.self.k l.counter l.self.cells l.who l.from l.cycle;
  bound : l.total ≤ 2 ^ 32 * (l.cycle - l.from);
}
