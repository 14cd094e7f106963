use Rattle.std.proofs.Common.{◌∙◌, ap, sym, subst, length, arith}
use Rattle.std.specs.Prelude.{IsSome}
use Rattle.omega_net.specs.Queues.{head}
use Rattle.flat_row.specs.Row.{queue_of}
use Rattle.flat_row.proofs.Siding.{departed_by}
use Rattle.flat_row.proofs.side.Side.depart.Goals as goal

pub receive-requires-clause-there : goal.receive-requires-clause-there
receive-requires-clause-there c = omega (arith, ap length c.forth.ensures.only.replies, c.requires.replies.many)

pub receive-requires-clause-some : goal.receive-requires-clause-some
receive-requires-clause-some c = λ p small has_it. subst (λ rs. IsSome (head (queue_of rs 0 p))) (sym c.forth.ensures.only.replies) (c.requires.comes p small has_it)

pub returns-clause-departed : goal.returns-clause-departed
returns-clause-departed c = departed_by c.args.plan.now.receive c.args.self.now c.forth.new.self c.receive.new.self c.receive.new.got c.forth.ensures.only c.receive.ensures.received

pub returns-clause-queues : goal.returns-clause-queues
returns-clause-queues c = λ l z within small. ap (λ rs. queue_of rs l z) c.receive.ensures.received.requests ∙ c.forth.ensures.queues l z within small
