use Rattle.std.proofs.Common.{◌≡◌, ℕ, ◌<◌, ◌≤◌, unwrap_or, length}
use Rattle.std.specs.Prelude.{All}
use Rattle.change_rows.specs.Cells.{end_of}
use Rattle.change_rows.specs.Changes.{row_at, IsChanges}
use Rattle.change_rows.specs.Left.{left_in}
use Rattle.change_rows.proofs.run.put_rows.Given as goal

abbrev pub invariant-loop-left : goal.invariant-loop-left
invariant-loop-left l = record {
  changes : IsChanges l.s.width l.s.rows.items l.s.marks.items l.s.seam l.s.at;
  width : l.s.width ≡ l.initial.s.width;
  seam : l.s.seam ≡ l.initial.s.seam;
  len : length l.s.rows.items ≡ length l.initial.s.rows.items;
  rows : All (λ left. left.row < length l.initial.s.rows.items) l.rest.items;
  wide : All (λ left. end_of left.cells ≤ l.initial.s.width) l.rest.items;
  same : (u : ℕ) → unwrap_or (left_in l.rest.items u) (row_at l.s.rows.items u) ≡ unwrap_or (left_in l.initial.rest.items u) (row_at l.initial.s.rows.items u);
}

abbrev pub decreases-loop-left : goal.decreases-loop-left
decreases-loop-left l = length l.rest.items
