use Rattle.std.proofs.Common.{◌≡◌, ℕ, ◌<◌, ◌&&◌, length, false, slice_index_or}
use Rattle.std.specs.List.{list_any, range_with_len}
use Rattle.cell_states.specs.Near.{has}
use Rattle.due_cells.proofs.cone.near_marks.Given as goal

abbrev pub invariant-loop-c : goal.invariant-loop-c
invariant-loop-c g l = record {
  len : length l.next.items ≡ g.G.Grid.rules.components l.slots;
  done : (m : ℕ) → m < length l.next.items → slice_index_or l.next.items m false ≡ list_any (λ x. slice_index_or l.marks x false && has (g.G.Grid.rules.near l.slots x) m) (range_with_len 0 l.c);
}
