use Rattle.flat_row.proofs.Shifting.{MovedDown}
use Rattle.flat_row.proofs.queue.move_down.Given as goal

-- the places from the first one on have what stood behind each of them
abbrev pub invariant-loop-i : goal.invariant-loop-i
invariant-loop-i g l = MovedDown l.initial.messages l.messages l.from l.i
