use Rattle.std.proofs.Common.{◌≡◌, ℕ, ◌||◌, length, take}
use Rattle.cell_states.specs.Near.{has}
use Rattle.cell_states.specs.Filling.{is_awake}
use Rattle.due_cells.proofs.readers.wake.Given as goal

abbrev pub invariant-loop-component : goal.invariant-loop-component
invariant-loop-component l = record {
  len : length l.marks ≡ length l.initial.marks;
  at : (c : ℕ) → is_awake l.marks c ≡ (is_awake l.initial.marks c || has (take l.component-index l.components) c);
}
