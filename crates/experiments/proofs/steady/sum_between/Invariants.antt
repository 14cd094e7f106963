use Rattle.std.proofs.Common.{◌≡◌, ◌+◌, ◌*◌, ◌≤◌, slice_index}
use Rattle.monitor_sums.specs.Adding.{sum_below}
use Rattle.experiments.proofs.steady.sum_between.Given as goal

abbrev pub invariant-loop-place : goal.invariant-loop-place
invariant-loop-place l = (l.sum ≡ sum_below (λ i. slice_index l.flow (i + l.from)) l.place) × (l.sum ≤ 65535 * l.place)
