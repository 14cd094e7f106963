use Rattle.std.proofs.Common.{◌<◌, ◌∙◌, ap, sym, subst, length}
use Rattle.std.specs.Prelude.{IsSome}
use Rattle.std.proofs.lemmas.Nat.Bits.{bit_at-lt}
use Rattle.omega_net.specs.Queues.{head}
use Rattle.omega_net.specs.Wires.{bit}
use Rattle.omega_net.specs.Ports.{queue_at}
use Rattle.flat_row.specs.Labels.{port}
use Rattle.flat_row.specs.Row.{level_at}
use Rattle.flat_row.proofs.Passing.{found_behind, level_found, pass_shape, pass_queues}
use Rattle.flat_row.proofs.moving.pass.Goals as goal

pub take-message-requires-clause-there : goal.take-message-requires-clause-there
take-message-requires-clause-there g c = subst (λ v. c.args.x < length v.queues) (sym (level_found c.args.levels.now.items c.args.from c.index_mut-before.result.now c.index_mut-before.ensures.value c.requires.can.source)) c.requires.message.queue

pub take-message-requires-clause-some : goal.take-message-requires-clause-some
take-message-requires-clause-some g c = subst (λ v. IsSome (head (queue_at v.queues c.args.x))) (sym (level_found c.args.levels.now.items c.args.from c.index_mut-before.result.now c.index_mut-before.ensures.value c.requires.can.source)) c.requires.message.some

pub port_of-y-requires-clause-bit : goal.port_of-y-requires-clause-bit
port_of-y-requires-clause-bit g c = subst (λ n. n < 2) (sym c.bit_of.ensures) (bit_at-lt c.route.result c.args.by)

pub give-requires-clause-there : goal.give-requires-clause-there
give-requires-clause-there g c =
    let behind = found_behind c.args.levels.now.items c.args.from c.args.to c.index_mut-before.result.now c.take-message.new.self c.index_mut-behind.result.now c.index_mut-behind.result.now c.requires.can.source c.requires.can.target c.requires.can.apart c.index_mut-before.ensures.value c.index_mut-behind.ensures.value in
    subst (λ v. c.port_of-y.result < length v.queues) (sym behind)
    (subst (λ n. n < length (level_at c.args.levels.now.items c.args.to).queues) (sym c.port_of-y.ensures) (c.requires.ports c.bit_of.result (subst (λ n. n < 2) (sym c.bit_of.ensures) (bit_at-lt c.route.result c.args.by))))

pub returns-clause-shape : goal.returns-clause-shape
returns-clause-shape g c =
    let there = subst (λ n. n < length (level_at c.args.levels.now.items c.args.to).queues) (sym c.port_of-y.ensures) (c.requires.ports c.bit_of.result (subst (λ n. n < 2) (sym c.bit_of.ensures) (bit_at-lt c.route.result c.args.by))) in
    let goes = c.port_of-y.ensures ∙ ap (λ i. port c.args.by i c.args.x) (c.bit_of.ensures ∙ ap (bit c.args.by) c.route.ensures) in
    pass_shape c.args.levels.now.items c.args.from c.args.to c.index_mut-before.result.now c.take-message.new.self c.index_mut-behind.result.now c.give.new.self c.requires.can.source c.requires.can.target c.requires.can.apart c.index_mut-before.ensures.value c.index_mut-behind.ensures.value
    c.args.x c.port_of-y.result c.take-message.result c.take-message.ensures.value c.requires.message.queue there c.take-message.ensures.after c.give.ensures g.T.Routed.route c.args.by goes

pub returns-clause-queues : goal.returns-clause-queues
returns-clause-queues g c = λ l z.
    let there = subst (λ n. n < length (level_at c.args.levels.now.items c.args.to).queues) (sym c.port_of-y.ensures) (c.requires.ports c.bit_of.result (subst (λ n. n < 2) (sym c.bit_of.ensures) (bit_at-lt c.route.result c.args.by))) in
    let goes = c.port_of-y.ensures ∙ ap (λ i. port c.args.by i c.args.x) (c.bit_of.ensures ∙ ap (bit c.args.by) c.route.ensures) in
    pass_queues c.args.levels.now.items c.args.from c.args.to c.index_mut-before.result.now c.take-message.new.self c.index_mut-behind.result.now c.give.new.self c.requires.can.source c.requires.can.target c.requires.can.apart c.index_mut-before.ensures.value c.index_mut-behind.ensures.value
    c.args.x c.port_of-y.result c.take-message.result c.take-message.ensures.value c.requires.message.queue there c.take-message.ensures.after c.give.ensures g.T.Routed.route c.args.by goes l z
