use Rattle.std.proofs.Common.{◌≡◌, ℕ, ◌+◌, ◌-◌, ◌<◌, ◌≤◌, cond, unwrap_or, None}
use Rattle.std.specs.Prelude.{All}
use Rattle.change_rows.specs.Cells.{found, end_of}
use Rattle.change_rows.specs.Marks.{is_in}
use Rattle.change_rows.specs.Changes.{row_at}
use Rattle.change_rows.specs.Left.{left_in}
use Rattle.change_rows.proofs.run.rest_of.Given as goal

abbrev pub invariant-loop-row : goal.invariant-loop-row
invariant-loop-row l = record {
  low : l.before < l.row;
  high : l.row ≤ l.last + 1;
  rows : All (λ left. left.row ≤ l.last) l.rest.items;
  end : All (λ left. end_of left.cells ≤ l.s.width) l.rest.items;
  before : (u : ℕ) → u ≤ l.before → left_in l.rest.items u ≡ None;
  behind : (u : ℕ) → l.row ≤ u → left_in l.rest.items u ≡ None;
  found : (u c : ℕ) → l.before < u → u < l.row → c < l.s.width → found (unwrap_or (left_in l.rest.items u) (row_at l.s.rows.items u)) c ≡ cond (is_in l.set c) None (found (row_at l.s.rows.items u) c);
}

abbrev pub decreases-loop-row : goal.decreases-loop-row
decreases-loop-row l = l.last + 1 - l.row
