use Rattle.std.proofs.Common.{◌≡◌, ◌≤◌, ◌+◌, ◌++◌, replicate, [], vec_len, vec_capacity}
use Rattle.change_rows.proofs.grow.push_rows.Given as goal

abbrev pub invariant-loop-t : goal.invariant-loop-t
invariant-loop-t l = record {
  items : l.rows.items ≡ l.initial.rows.items ++ replicate l._t [];
  room : vec_len l.rows + l.m ≤ vec_capacity l.rows + l._t;
}
