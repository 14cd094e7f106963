use Rattle.std.proofs.Common.{◌≡◌, ℕ, length, [], slice_index_or}
use Rattle.change_rows.proofs.rows.no_marks.Given as goal

abbrev pub invariant-loop-w : goal.invariant-loop-w
invariant-loop-w l = record {
  len : length l.marks.items ≡ l._w;
  none : (w : ℕ) → slice_index_or l.marks.items w [] ≡ [];
}
