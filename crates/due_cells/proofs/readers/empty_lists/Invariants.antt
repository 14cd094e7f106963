use Rattle.std.proofs.Common.{◌≡◌, replicate, []}
use Rattle.due_cells.proofs.readers.empty_lists.Given as goal

abbrev pub invariant-loop-c : goal.invariant-loop-c
invariant-loop-c l = l.lists.items ≡ replicate l._c []
