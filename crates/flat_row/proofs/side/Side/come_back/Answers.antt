use Rattle.std.proofs.Common.{◌<◌, ◌∙◌, ap, sym, subst, arith}
use Rattle.omega_net.specs.declared.message.Reply.{Reply}
use Rattle.flat_row.specs.Row.{queue_of}
use Rattle.flat_row.proofs.Siding.{returned_by, back_end}
use Rattle.flat_row.proofs.side.Side.come_back.Goals as goal

pub answer-requires-clause-there : goal.answer-requires-clause-there
answer-requires-clause-there c = omega (arith, c.back.ensures.only.shape.many, c.requires.replies.many)

pub answer-requires-clause-wide : goal.answer-requires-clause-wide
answer-requires-clause-wide c = λ m small has_it. subst (λ n. m < n) (sym (c.back.ensures.only.shape.queues c.args.shape ∙ c.requires.replies.each c.args.shape (omega arith))) (c.requires.wide m small has_it)

pub returns-clause-returned : goal.returns-clause-returned
returns-clause-returned c =
    returned_by c.args.shape c.args.plan.now.back.leave c.args.modules c.args.answers.now c.args.plan.now.forth.turns c.args.plan.now.back.turns c.args.self.now c.back.new.self c.answer.new.self c.turn.new.self
    c.back.ensures.only c.answer.ensures (λ z small. c.back.ensures.queues c.args.shape z (omega arith) small ∙ back_end (λ (y : Reply). y.tag.proc) c.args.shape c.args.plan.now.back.leave c.args.self.now.replies z) c.turn.ensures.requests c.turn.ensures.replies c.turn.ensures.turns c.turn.ensures.back_turns

pub returns-clause-queues : goal.returns-clause-queues
returns-clause-queues c = λ l z within small.
    ap (λ rs. queue_of rs l z) c.turn.ensures.replies ∙ c.answer.ensures.rest l z (λ e. omega (arith, e, within)) ∙ c.back.ensures.queues l z (omega (arith, within)) small
