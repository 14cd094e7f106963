use Rattle.std.proofs.Common.{◌<◌, sym, subst, length}
use Rattle.std.specs.Prelude.{IsSome}
use Rattle.omega_net.specs.Queues.{head}
use Rattle.omega_net.specs.Ports.{queue_at}
use Rattle.flat_row.proofs.Passing.{found_behind, level_found, pass_straight_shape, pass_straight_queues}
use Rattle.flat_row.proofs.moving.pass_straight.Goals as goal

pub take-message-requires-clause-there : goal.take-message-requires-clause-there
take-message-requires-clause-there g c = subst (λ v. c.args.x < length v.queues) (sym (level_found c.args.levels.now.items c.args.from c.index_mut-before.result.now c.index_mut-before.ensures.value c.requires.can.source)) c.requires.message.queue

pub take-message-requires-clause-some : goal.take-message-requires-clause-some
take-message-requires-clause-some g c = subst (λ v. IsSome (head (queue_at v.queues c.args.x))) (sym (level_found c.args.levels.now.items c.args.from c.index_mut-before.result.now c.index_mut-before.ensures.value c.requires.can.source)) c.requires.message.some

pub give-requires-clause-there : goal.give-requires-clause-there
give-requires-clause-there g c =
    let behind = found_behind c.args.levels.now.items c.args.from c.args.to c.index_mut-before.result.now c.take-message.new.self c.index_mut-behind.result.now c.index_mut-behind.result.now c.requires.can.source c.requires.can.target c.requires.can.apart c.index_mut-before.ensures.value c.index_mut-behind.ensures.value in
    subst (λ v. c.args.x < length v.queues) (sym behind) c.requires.there

pub returns-clause-shape : goal.returns-clause-shape
returns-clause-shape g c =
    pass_straight_shape c.args.levels.now.items c.args.from c.args.to c.index_mut-before.result.now c.take-message.new.self c.index_mut-behind.result.now c.give.new.self c.requires.can.source c.requires.can.target c.requires.can.apart c.index_mut-before.ensures.value c.index_mut-behind.ensures.value
    c.args.x c.take-message.result c.take-message.ensures.value c.requires.message.queue c.requires.there c.take-message.ensures.after c.give.ensures

pub returns-clause-queues : goal.returns-clause-queues
returns-clause-queues g c = λ l z.
    pass_straight_queues c.args.levels.now.items c.args.from c.args.to c.index_mut-before.result.now c.take-message.new.self c.index_mut-behind.result.now c.give.new.self c.requires.can.source c.requires.can.target c.requires.can.apart c.index_mut-before.ensures.value c.index_mut-behind.ensures.value
    c.args.x c.take-message.result c.take-message.ensures.value c.requires.message.queue c.requires.there c.take-message.ensures.after c.give.ensures l z
