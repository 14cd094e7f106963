use Rattle.std.proofs.Common.{ap, sym, subst, length, arith}
use Rattle.std.specs.Prelude.{IsSome}
use Rattle.omega_net.specs.Queues.{head}
use Rattle.flat_row.specs.Row.{queue_of}
use Rattle.flat_row.specs.Stages.{CombForth}
use Rattle.flat_row.proofs.Siding.{departed_by}
use Rattle.flat_row.proofs.side.Side.combs_depart.Goals as goal

pub receive-requires-clause-there : goal.receive-requires-clause-there
receive-requires-clause-there c = omega (arith, ap length c.combs_forth.ensures.only.replies, c.requires.replies.many)

pub receive-requires-clause-some : goal.receive-requires-clause-some
receive-requires-clause-some c = λ p small has_it. subst (λ rs. IsSome (head (queue_of rs 0 p))) (sym c.combs_forth.ensures.only.replies) (c.requires.comes p small has_it)

pub returns-clause-departed : goal.returns-clause-departed
returns-clause-departed c = departed_by c.args.plan.now.receive c.args.self.now c.combs_forth.new.self c.receive.new.self c.receive.new.got c.combs_forth.ensures.only c.receive.ensures.received

pub returns-clause-crossed : goal.returns-clause-crossed
returns-clause-crossed c =
    subst (λ rs. CombForth c.args.project.now c.args.plan.now.forth.leave c.args.plan.now.enter c.args.self.now.requests rs c.args.waits.now.items c.combs_forth.new.waits.items) (sym c.receive.ensures.received.requests) c.combs_forth.ensures.crossed
