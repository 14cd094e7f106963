use Rattle.std.proofs.Common.{◌≡◌, ℕ, ◌<◌, ◌≤◌, length, slice_index_or}
use Rattle.change_rows.specs.declared.head.Head.{Head}
use Rattle.change_rows.specs.Packed.{moved}
use Rattle.change_rows.proofs.cells.push_heads.Given as goal

abbrev pub invariant-loop-i : goal.invariant-loop-i
invariant-loop-i l = record {
  len : length l.heads.items ≡ length l.initial.heads.items;
  before : (k : ℕ) (d : Head) → k < l.at → slice_index_or l.heads.items k d ≡ slice_index_or l.initial.heads.items k d;
  done : (k : ℕ) (d : Head) → l.at ≤ k → k < l.i → slice_index_or l.heads.items k d ≡ moved l.start l.base (slice_index_or l.initial.heads.items k d);
  rest : (k : ℕ) (d : Head) → l.i ≤ k → slice_index_or l.heads.items k d ≡ slice_index_or l.initial.heads.items k d;
}
