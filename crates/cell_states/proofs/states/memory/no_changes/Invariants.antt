use Rattle.std.proofs.Common.{◌≡◌, length}
use Rattle.cell_states.proofs.states.memory.no_changes.Given as goal

abbrev pub invariant-loop-c : goal.invariant-loop-c
invariant-loop-c g l = length l.changes.items ≡ l._c
