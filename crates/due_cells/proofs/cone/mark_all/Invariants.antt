use Rattle.std.proofs.Common.{◌≡◌, ℕ, ◌<◌, ◌||◌, length, false, take, slice_index_or}
use Rattle.cell_states.specs.Near.{has}
use Rattle.due_cells.proofs.cone.mark_all.Given as goal

abbrev pub invariant-loop-c : goal.invariant-loop-c
invariant-loop-c l = record {
  len : length l.marks.items ≡ length l.initial.marks.items;
  done : (m : ℕ) → m < length l.initial.marks.items → slice_index_or l.marks.items m false ≡ (slice_index_or l.initial.marks.items m false || has (take l.c-index l.components) m);
}
