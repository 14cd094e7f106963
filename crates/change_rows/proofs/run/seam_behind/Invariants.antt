use Rattle.std.proofs.Common.{◌≡◌, ℕ, ◌+◌, ◌≤◌, List, Some, None, take, unwrap_or}
use Rattle.change_rows.specs.Cells.{found, end_of}
use Rattle.change_rows.specs.Standing.{standing}
use Rattle.change_rows.specs.Changes.{row_at, begins_at}
use Rattle.change_rows.proofs.run.seam_behind.Given as goal

abbrev pub invariant-loop-i : goal.invariant-loop-i
invariant-loop-i l = record {
  kept : (c : ℕ) (w : List ℕ) → found (take l.i l.chosen) c ≡ Some w → found (row_at l.s.rows.items (l.last + 1)) c ≡ None → unwrap_or (found l.out c) (standing (begins_at l.s.rows.items l.s.seam l.s.at c) l.before) ≡ standing (begins_at l.s.rows.items l.s.seam l.s.at c) l.last;
  only : (c : ℕ) → found (take l.i l.chosen) c ≡ None → found l.out c ≡ None;
  end : end_of l.out ≤ end_of (take l.i l.chosen);
}
