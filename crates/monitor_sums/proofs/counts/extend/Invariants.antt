use Rattle.std.proofs.Common.{◌≡◌, ℕ, ◌-◌, ◌<◌, ◌≤◌, length, vec_capacity, cond}
use Rattle.std.specs.Prelude.{slice_index_or, nat_le, nat_lt, ◌&&◌}
use Rattle.monitor_sums.specs.Counts.{nothing}
use Rattle.monitor_sums.proofs.counts.extend.Given as goal

abbrev pub decreases-loop-new : goal.decreases-loop-new
decreases-loop-new l = l.size - length l.counts.items

abbrev pub invariant-loop-new : goal.invariant-loop-new
invariant-loop-new l = record {
  capacity : vec_capacity l.counts ≡ vec_capacity l.fn.counts;
  longer : length l.fn.counts.items ≤ length l.counts.items;
  within : length l.fn.counts.items < length l.counts.items → length l.counts.items ≤ l.size;
  each : (t : ℕ) → slice_index_or l.counts.items t nothing
      ≡ cond (nat_le (length l.fn.counts.items) t && nat_lt t (length l.counts.items)) l.new (slice_index_or l.fn.counts.items t nothing);
}
