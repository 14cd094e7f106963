use Rattle.std.proofs.Common.{◌≡◌, ◌≤◌, ◌*◌, slice_get}
use Rattle.monitor_sums.specs.Adding.{sum_below}
use Rattle.run_reports.specs.Gauges.{held_at}
use Rattle.run_reports.proofs.gauge.held_in.Given as goal

abbrev pub invariant-loop-place : goal.invariant-loop-place
invariant-loop-place l = record {
  is : l.total ≡ sum_below (λ c. held_at l.shape l.net l.stage c (slice_get l.states c)) l.place;
  small : l.total ≤ 255 * l.place;
}
