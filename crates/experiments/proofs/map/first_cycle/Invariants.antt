use Rattle.std.proofs.Common.{◌≡◌, ◌<◌, ℕ, false}
use Rattle.std.specs.Prelude.{nat_le, slice_index}
use Rattle.experiments.proofs.map.first_cycle.Given as goal

abbrev pub invariant-loop-cycle : goal.invariant-loop-cycle
invariant-loop-cycle l = (t : ℕ) → t < l.cycle → nat_le l.least (slice_index l.levels t) ≡ false
