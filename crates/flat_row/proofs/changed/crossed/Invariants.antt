use Rattle.std.proofs.Common.{◌≡◌, ℕ, ◌<◌, length}
use Rattle.std.specs.Prelude.{slice_index_or}
use Rattle.flat_row.specs.Masks.{IsSetOf}
use Rattle.flat_row.specs.Changed.{crosses}
use Rattle.flat_row.proofs.changed.crossed.Given as goal

abbrev pub invariant-loop-stage : goal.invariant-loop-stage
invariant-loop-stage l = record {
  long : length l.sets ≡ 6;
  all : (s : ℕ) → s < l.stage → IsSetOf (crosses l.shape l.plan s) (slice_index_or l.sets s 0);
}
