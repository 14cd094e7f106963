use Rattle.change_rows.proofs.Marking.{zeros_set}
use Rattle.change_rows.proofs.marks.grow_by.Goals as goal

pub returns-clause-same : goal.returns-clause-same
returns-clause-same c = λ t k. zeros_set c.loop-t.words.items c.reserve.new.self.items c.args.words.now.items c.loop-t._t c.loop-t.invariant.items c.in_ok-reserve.ensures.items t k
