use Rattle.std.proofs.Common.{◌≡◌}
use Rattle.monitor_sums.specs.Kept.{StandsFor}
use Rattle.monitor_sums.specs.Sums.{States}
use Rattle.bench_core.specs.Shown.{held}
use Rattle.bench_core.specs.Filling.{filled_to}
use Rattle.bench_core.proofs.counters.count_all_filled.Given as goal

abbrev pub invariant-loop-component : goal.invariant-loop-component
invariant-loop-component l = record {
  shape : l.sums.k ≡ l.initial.sums.k;
  last : l.sums.last ≡ l.initial.sums.last;
  stands : (at : States) → StandsFor l.initial.sums at → StandsFor l.sums (filled_to at (held l.table) l.component l.from l.to);
}
