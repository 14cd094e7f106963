use Rattle.std.proofs.Common.{◌≡◌, ℕ, ◌*◌, ◌<◌, length}
use Rattle.std.specs.Prelude.{◌||◌}
use Rattle.omega_net.specs.Numbers.{components, half}
use Rattle.cell_states.specs.Filling.{is_awake}
use Rattle.whole_rows.specs.Among.{is_among, in_stages}
use Rattle.whole_rows.proofs.moved.mark_stages.Given as goal

abbrev pub invariant-loop-stage : goal.invariant-loop-stage
invariant-loop-stage l = record {
  len : length l.marks ≡ length l.initial.marks;
  marks : (c : ℕ) → c < components l.shape → is_awake l.marks c ≡ (is_awake l.initial.marks c || is_among l.first (l.stage * half l.shape) (in_stages l.shape l.sets) c);
}
