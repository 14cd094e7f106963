use Rattle.mem_module.proofs.Rows.{past_last_read}
use Rattle.mem_module.proofs.words.Words.is_past.Goals as goal

pub returns-in-Some-clause-past : goal.returns-in-Some-clause-past
returns-in-Some-clause-past c = λ over.
    rw (← c.self.view_is) (past_last_read c.self.inside.stored.items c.args.row c.in-Some.last.now c.self.invariant (rw c.deref.ensures.value at c.in-Some.ensures.value) over)
