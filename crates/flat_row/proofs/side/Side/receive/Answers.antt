use Rattle.std.proofs.Common.{◌<◌, ◌∙◌, ap, sym, subst, length, arith}
use Rattle.std.specs.Prelude.{IsSome}
use Rattle.omega_net.specs.Queues.{head}
use Rattle.omega_net.specs.Ports.{queue_at}
use Rattle.flat_row.specs.Row.{Network, level_at}
use Rattle.flat_row.proofs.Siding.{level_is, received_in}
use Rattle.flat_row.proofs.side.Side.receive.Goals as goal

pub index_mut-level-requires : goal.index_mut-level-requires
index_mut-level-requires c =
    let many = ap (λ (n : Network). length n.replies) c.self.view_is in
    let there : 0 < length c.self.inside.replies.items = omega (arith, many, c.requires.there) in
    omega (arith, there)

pub receive-requires : goal.receive-requires
receive-requires c = λ p small has_it.
    let many = ap (λ (n : Network). length n.replies) c.self.view_is in
    let there : 0 < length c.self.inside.replies.items = omega (arith, many, c.requires.there) in
    let found = level_is c.self.inside.replies.items 0 c.index_mut-level.result.now c.index_mut-level.result.now there c.index_mut-level.ensures.value in
    let was = ap (λ (n : Network). level_at n.replies 0) c.self.view_is in
    subst (λ v. IsSome (head (queue_at v.queues p))) (sym (found ∙ was)) (c.requires.some p small has_it)

pub returns-clause-received : goal.returns-clause-received
returns-clause-received c =
    let many = ap (λ (n : Network). length n.replies) c.self.view_is in
    let there : 0 < length c.self.inside.replies.items = omega (arith, many, c.requires.there) in
    received_in c.args.self.now c.self.inside.requests.items c.self.inside.replies.items c.self.inside.turns c.self.inside.back_turns c.self.view_is c.args.set (record { set = c.args.set; at = c.receive.new.at }) c.index_mut-level.result.now c.receive.new.level there c.index_mut-level.ensures.value c.receive.ensures.shape c.receive.ensures.received
