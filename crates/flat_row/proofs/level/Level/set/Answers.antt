use Rattle.std.proofs.Common.{◌<◌, length}
use Rattle.omega_net.specs.Ports.{queue_at}
use Rattle.flat_row.proofs.Marking.{found_long, marks_kept}
use Rattle.flat_row.proofs.level.Level.set.Goals as goal

pub set-requires : goal.set-requires
set-requires g c =
    let i = c.self.inside in
    let there : c.args.x < length i.queues.items = rw (← c.self.view_is) at c.requires.there in
    let long : c.args.index < length (queue_at i.queues.items c.args.x).items = rw (← c.self.view_is) at c.requires.index in
    (c.requires.fits, found_long i.queues.items c.args.x c.args.index _ c.index_mut-queue.ensures.value there long)

pub invariant_of-self : goal.invariant_of-self
invariant_of-self g c =
    let i = c.self.inside in
    let there : c.args.x < length i.queues.items = rw (← c.self.view_is) at c.requires.there in
    marks_kept g.T.Routed.route i.rule i.queues.items i.marks _ c.args.x c.set.new.self c.as_slice.result.now c.shown_by-shown.result c.self.invariant there
    c.as_slice.ensures.value c.shown_by-shown.ensures c.with_shown-self-inside.ensures
