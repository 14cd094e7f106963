use Rattle.std.proofs.Common.{◌≡◌, take}
use Rattle.monitor_sums.specs.Kept.{StandsFor}
use Rattle.monitor_sums.specs.Sums.{States}
use Rattle.bench_core.specs.Shown.{held}
use Rattle.bench_core.specs.Filling.{filled_over}
use Rattle.bench_core.proofs.counters.count_ranges.Given as goal

abbrev pub invariant-loop-range : goal.invariant-loop-range
invariant-loop-range l = record {
  shape : l.sums.k ≡ l.initial.sums.k;
  last : l.sums.last ≡ l.initial.sums.last;
  stands : (at : States) → StandsFor l.initial.sums at → StandsFor l.sums (filled_over at (held l.table) (take l.range-index l.ranges));
}
