use Rattle.std.proofs.Common.{◌≡◌, ℕ, ◌<◌, ◌≤◌, length, take, [], slice_index_or}
use Rattle.change_rows.proofs.marks.cut_lines.Given as goal

abbrev pub invariant-loop-w : goal.invariant-loop-w
invariant-loop-w l = record {
  len : length l.lines.items ≡ length l.initial.lines.items;
  done : (w : ℕ) → w < l.w → slice_index_or l.lines.items w [] ≡ take l.n (slice_index_or l.initial.lines.items w []);
  rest : (w : ℕ) → l.w ≤ w → slice_index_or l.lines.items w [] ≡ slice_index_or l.initial.lines.items w [];
}
