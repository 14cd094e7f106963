use Rattle.std.proofs.Common.{◌≡◌, ℕ, ◌+◌, ◌<◌, ◌≤◌, List, Some, None, [], take, length, unwrap_or}
use Rattle.change_rows.specs.Cells.{found, end_of, component_at}
use Rattle.change_rows.specs.Standing.{standing, standing_before}
use Rattle.change_rows.specs.Changes.{row_at, begins_at}
use Rattle.change_rows.proofs.edit.lay_over.Given as goal

abbrev pub invariant-loop-i : goal.invariant-loop-i
invariant-loop-i l = record {
  there : l.from ≤ length l.under;
  low : end_of (take l.from l.under) ≤ end_of (take l.i l.draft);
  high : l.from < length l.under → end_of (take l.i l.draft) ≤ component_at l.under l.from;
  kept : (c : ℕ) (w : List ℕ) → found (take l.i l.draft) c ≡ Some w → unwrap_or (found l.row c) (standing_before (begins_at l.s.rows.items l.s.seam l.s.at c) l.t) ≡ w;
  others : (c : ℕ) → found (take l.i l.draft) c ≡ None → found l.row c ≡ found (take l.from l.under) c;
  end : end_of l.row ≤ end_of (take l.i l.draft);
  seam_kept : (c : ℕ) (w : List ℕ) → found (take l.i l.draft) c ≡ Some w → l.t + 1 < length l.s.rows.items → found (row_at l.s.rows.items (l.t + 1)) c ≡ None → unwrap_or (found l.seam c) w ≡ standing (begins_at l.s.rows.items l.s.seam l.s.at c) l.t;
  seam_only : (c : ℕ) → found (take l.i l.draft) c ≡ None → found l.seam c ≡ None;
  seam_end : end_of l.seam ≤ end_of (take l.i l.draft);
  seam_past : (l.t + 1 < length l.s.rows.items → ⊥) → l.seam ≡ [];
}
