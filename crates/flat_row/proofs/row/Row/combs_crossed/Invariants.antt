use Rattle.std.proofs.Common.{◌≡◌, ℕ, ◌<◌, ◌≤◌, length}
use Rattle.std.specs.Prelude.{◌||◌, slice_index_or}
use Rattle.flat_row.specs.Masks.{IsSetOf}
use Rattle.flat_row.specs.Row.{buffers_at}
use Rattle.flat_row.specs.Changed.{crosses, has_combined}
use Rattle.flat_row.proofs.row.Row.combs_crossed.Given as goal

abbrev pub invariant-loop-stage : goal.invariant-loop-stage
invariant-loop-stage l = record {
  long : length l.sets ≡ 6;
  all : (s : ℕ) → s < l.stage → IsSetOf (λ x. crosses l.self.k l.plan s x || has_combined (buffers_at l.self s) x) (slice_index_or l.sets s 0);
  rest : (s : ℕ) → l.stage ≤ s → s < l.self.k → IsSetOf (crosses l.self.k l.plan s) (slice_index_or l.sets s 0);
}
