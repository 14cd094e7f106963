use Rattle.std.proofs.Common.{◌≡◌, ◌≤◌, ◌+◌, ◌++◌, replicate, vec_len, vec_capacity}
use Rattle.change_rows.proofs.marks.grow_by.Given as goal

abbrev pub invariant-loop-t : goal.invariant-loop-t
invariant-loop-t l = record {
  items : l.words.items ≡ l.initial.words.items ++ replicate l._t 0;
  room : vec_len l.words + l.m ≤ vec_capacity l.words + l._t;
}
