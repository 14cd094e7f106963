use Rattle.std.proofs.Common.{◌≡◌, ◌||◌, ℕ, take, is_some, length}
use Rattle.change_rows.specs.Cells.{found}
use Rattle.cell_states.specs.Filling.{is_awake}
use Rattle.cell_states.proofs.states.each.mark_draft.Given as goal

abbrev pub invariant-loop-i : goal.invariant-loop-i
invariant-loop-i l = record {
  len : length l.changes ≡ length l.initial.changes;
  marks : (c : ℕ) → is_awake l.changes c ≡ (is_awake l.initial.changes c || is_some (found (take l.i l.draft) c));
}
