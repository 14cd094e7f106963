use Rattle.std.proofs.Common.{◌≡◌, ◌+◌, ◌-◌, ◌*◌, ◌≤◌}
use Rattle.project_book.specs.Limits.{max_horizon}
use Rattle.monitor_sums.specs.Adding.{sum_below}
use Rattle.monitor_sums.specs.Counts.{part}
use Rattle.monitor_sums.specs.Kept.{kept_at}
use Rattle.monitor_sums.proofs.sums.sum_all.Given as goal

abbrev pub invariant-loop-component : goal.invariant-loop-component
invariant-loop-component l = record {
  value : l.total ≡ sum_below (λ c. sum_below (λ i. part l.counter (kept_at l.cells.items (i + l.from) c)) (l.end - l.from)) l.component;
  bound : l.total ≤ 256 * (max_horizon + 1) * l.component;
}
