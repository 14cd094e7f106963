use Rattle.std.proofs.Common.{◌≡◌, ℕ, ◌<◌, length}
use Rattle.cell_marks.specs.Marked.{is_set, row_at}
use Rattle.cell_states.specs.Near.{has}
use Rattle.due_cells.specs.Readers.{readers_at}
use Rattle.due_cells.proofs.readers.rows_of.Given as goal

abbrev pub invariant-loop-c : goal.invariant-loop-c
invariant-loop-c l = record {
  len : length l.rows.items ≡ l.c;
  width : (c : ℕ) → c < l.c → length (row_at l.rows.items c) ≡ l.count;
  same : (c k : ℕ) → c < l.c → k < l.count → is_set (row_at l.rows.items c) k ≡ has (readers_at l.lists.items c) k;
}
