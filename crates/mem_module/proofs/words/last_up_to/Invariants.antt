use Rattle.std.proofs.Common.{◌-◌}
use Rattle.mem_module.proofs.Rows.{Searching}
use Rattle.mem_module.proofs.words.last_up_to.Given as goal

-- the last place up to the row is among those that are left, or there is none and they begin at place 0
abbrev pub invariant-loop-size : goal.invariant-loop-size
invariant-loop-size l = Searching l.stored l.row l.base l.size

-- fewer are left each time
abbrev pub decreases-loop-size : goal.decreases-loop-size
decreases-loop-size l = l.size - 1
