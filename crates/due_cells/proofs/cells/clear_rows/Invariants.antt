use Rattle.std.proofs.Common.{◌≡◌, ℕ, ◌<◌, ◌≤◌, false, [], length, replicate, slice_index_or}
use Rattle.due_cells.proofs.cells.clear_rows.Given as goal

abbrev pub invariant-loop-t : goal.invariant-loop-t
invariant-loop-t l = record {
  width : l.due.width ≡ l.initial.due.width;
  len : length l.due.rows ≡ length l.initial.due.rows;
  cleared : (t : ℕ) → l.from ≤ t → t < l.t → slice_index_or l.due.rows t [] ≡ replicate l.initial.due.width false;
  earlier : (t : ℕ) → t < l.from → slice_index_or l.due.rows t [] ≡ slice_index_or l.initial.due.rows t [];
  later : (t : ℕ) → l.t ≤ t → slice_index_or l.due.rows t [] ≡ slice_index_or l.initial.due.rows t [];
}
