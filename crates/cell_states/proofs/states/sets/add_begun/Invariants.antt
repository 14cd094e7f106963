use Rattle.std.proofs.Common.{◌≡◌, ℕ, ◌-◌, ◌<◌, ◌/◌, true, false, length}
use Rattle.change_rows.specs.Rows.{words_at}
use Rattle.cell_states.specs.Filling.{is_awake}
use Rattle.cell_states.proofs.states.sets.add_begun.Given as goal

abbrev pub invariant-loop-w : goal.invariant-loop-w
invariant-loop-w l = record {
  len : length l.marks ≡ length l.initial.marks;
  more : (c : ℕ) → is_awake l.initial.marks c ≡ true → is_awake l.marks c ≡ true;
  same : (c : ℕ) → c < length l.marks → c / 64 < l.w → is_awake l.marks c ≡ false → words_at l.rows.rows l.cycle c ≡ words_at l.rows.rows (l.cycle - 1) c;
}
