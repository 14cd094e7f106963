use Rattle.std.proofs.Common.{◌≡◌, ◌≤◌, ◌*◌, slice_get}
use Rattle.monitor_sums.specs.Adding.{sum_below}
use Rattle.monitor_sums.specs.Counts.{count}
use Rattle.run_reports.proofs.gauge.counted.Given as goal

abbrev pub invariant-loop-place : goal.invariant-loop-place
invariant-loop-place l = record {
  is : l.total ≡ sum_below (λ c. count l.counter (slice_get l.states c)) l.place;
  small : l.total ≤ 255 * l.place;
}
