use Rattle.std.proofs.Common.{◌≡◌, ℕ, ◌*◌, ◌<◌, ◌≤◌, cond, nat_eq, is_some, length, [], slice_index_or}
use Rattle.change_rows.specs.Cells.{found, IsSplit}
use Rattle.change_rows.specs.Marks.{is_marked}
use Rattle.change_rows.proofs.marks.mark_row.Given as goal

abbrev pub invariant-loop-w : goal.invariant-loop-w
invariant-loop-w l = record {
  len : length l.lines.items ≡ length l.initial.lines.items;
  split : IsSplit l.cells (64 * l.w) l.from;
  tall : (v : ℕ) → length (slice_index_or l.lines.items v []) ≡ length (slice_index_or l.initial.lines.items v []);
  done : (u c : ℕ) → c < 64 * l.w → is_marked l.lines.items u c ≡ cond (nat_eq u l.t) (is_some (found l.cells c)) (is_marked l.initial.lines.items u c);
  rest : (v : ℕ) → l.w ≤ v → slice_index_or l.lines.items v [] ≡ slice_index_or l.initial.lines.items v [];
}
