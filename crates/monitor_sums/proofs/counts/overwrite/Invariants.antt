use Rattle.std.proofs.Common.{◌≡◌, ℕ, length, vec_capacity, cond}
use Rattle.std.specs.Prelude.{slice_index_or, nat_le, nat_lt, ◌&&◌}
use Rattle.monitor_sums.specs.Counts.{nothing}
use Rattle.monitor_sums.proofs.counts.overwrite.Given as goal

abbrev pub invariant-loop-cycle : goal.invariant-loop-cycle
invariant-loop-cycle l = record {
  capacity : vec_capacity l.counts ≡ vec_capacity l.fn.counts;
  size : length l.counts.items ≡ length l.fn.counts.items;
  each : (t : ℕ) → slice_index_or l.counts.items t nothing ≡ cond (nat_le l.from t && nat_lt t l.cycle) l.new (slice_index_or l.fn.counts.items t nothing);
}
