use Rattle.std.proofs.Common.{◌≡◌, ℕ, ◌<◌, ◌≤◌, length, [], slice_index_or}
use Rattle.change_rows.specs.Marks.{is_set}
use Rattle.change_rows.proofs.marks.grow_lines.Given as goal

abbrev pub invariant-loop-w : goal.invariant-loop-w
invariant-loop-w l = record {
  len : length l.lines.items ≡ length l.initial.lines.items;
  same : (w t k : ℕ) → is_set (slice_index_or l.lines.items w []) t k ≡ is_set (slice_index_or l.initial.lines.items w []) t k;
  longer : (w : ℕ) → length (slice_index_or l.initial.lines.items w []) ≤ length (slice_index_or l.lines.items w []);
  ok : (w : ℕ) → w < l.w → l.n ≤ length (slice_index_or l.lines.items w []);
}
