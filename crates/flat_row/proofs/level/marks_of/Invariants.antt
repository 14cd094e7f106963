use Rattle.flat_row.proofs.Marking.{PartlyMarked}
use Rattle.flat_row.proofs.level.marks_of.Given as goal

abbrev pub invariant-loop-x : goal.invariant-loop-x
invariant-loop-x g l = PartlyMarked g.T.Routed.route l.rule l.queues l.x l.marks
