use Rattle.std.proofs.Common.{◌≡◌, ◌-◌, ◌≤◌}
use Rattle.monitor_sums.specs.Kept.{StandsFor}
use Rattle.monitor_sums.specs.Sums.{States}
use Rattle.bench_core.specs.Shown.{held}
use Rattle.bench_core.specs.Filling.{filled_in}
use Rattle.bench_core.proofs.counters.count_filled.Given as goal

abbrev pub decreases-loop-cycle : goal.decreases-loop-cycle
decreases-loop-cycle l = l.to - l.cycle

abbrev pub invariant-loop-cycle : goal.invariant-loop-cycle
invariant-loop-cycle l = record {
  began : l.from ≤ l.cycle;
  ended : l.cycle ≤ l.to;
  shape : l.sums.k ≡ l.initial.sums.k;
  last : l.sums.last ≡ l.initial.sums.last;
  stands : (at : States) → StandsFor l.initial.sums at → StandsFor l.sums (filled_in at (held l.table) l.component l.from l.cycle);
}
