use Rattle.std.proofs.Common.{◌<◌, length, IsSome}
use Rattle.omega_net.specs.Ports.{queue_at}
use Rattle.omega_net.specs.Queues.{head}
use Rattle.flat_row.proofs.Marking.{found_some, marks_kept}
use Rattle.flat_row.proofs.level.Level.take.Goals as goal

pub take_head-message-requires : goal.take_head-message-requires
take_head-message-requires g c =
    let i = c.self.inside in
    let there : c.args.x < length i.queues.items = rw (← c.self.view_is) at c.requires.there in
    let some : IsSome (head (queue_at i.queues.items c.args.x)) = rw (← c.self.view_is) at c.requires.some in
    (c.requires.fits, found_some i.queues.items c.args.x _ c.index_mut-queue.ensures.value there some)

pub invariant_of-self : goal.invariant_of-self
invariant_of-self g c =
    let i = c.self.inside in
    let there : c.args.x < length i.queues.items = rw (← c.self.view_is) at c.requires.there in
    marks_kept g.T.Routed.route i.rule i.queues.items i.marks _ c.args.x c.take_head-message.new.self c.as_slice.result.now c.shown_by-shown.result c.self.invariant there
    c.as_slice.ensures.value c.shown_by-shown.ensures c.with_shown-self-inside.ensures
