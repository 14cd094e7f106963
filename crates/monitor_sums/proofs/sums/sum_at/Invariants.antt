use Rattle.std.proofs.Common.{◌≡◌, ◌+◌, ◌-◌, ◌*◌, ◌≤◌}
use Rattle.monitor_sums.specs.Adding.{sum_below}
use Rattle.monitor_sums.specs.Counts.{part}
use Rattle.monitor_sums.specs.Kept.{kept_at}
use Rattle.monitor_sums.proofs.sums.sum_at.Given as goal

abbrev pub invariant-loop-cycle : goal.invariant-loop-cycle
invariant-loop-cycle l = record {
  began : l.from ≤ l.cycle;
  value : l.total ≡ sum_below (λ i. part l.counter (kept_at l.cells.items (i + l.from) l.component)) (l.cycle - l.from);
  bound : l.total ≤ 256 * (l.cycle - l.from);
}
