use Rattle.std.proofs.Common.{◌<◌, length}
use Rattle.flat_row.proofs.Marking.{marks_kept, marks_stay}
use Rattle.flat_row.proofs.level.Level.hold.Goals as goal

pub invariant_of-self-2 : goal.invariant_of-self-2
invariant_of-self-2 g c =
    let i = c.self.inside in
    let there : c.args.x < length i.queues.items = rw (← c.self.view_is) at c.requires.there in
    marks_kept g.T.Routed.route i.rule i.queues.items i.marks _ c.args.x c.hold.new.self c.as_slice-2.result.now c.shown_by-shown.result c.self.invariant there
    c.as_slice-2.ensures.value c.shown_by-shown.ensures c.with_shown-self-inside.ensures

pub invariant_of-self : goal.invariant_of-self
invariant_of-self g c =
    let i = c.self.inside in
    marks_stay g.T.Routed.route i.rule i.queues.items i.marks c.args.x c.index_mut-queue.result.now c.self.invariant c.index_mut-queue.ensures.value
