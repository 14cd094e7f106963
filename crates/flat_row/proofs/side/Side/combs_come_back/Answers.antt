use Rattle.std.proofs.Common.{◌<◌, ◌∙◌, ap, sym, subst, length, arith}
use Rattle.flat_row.specs.Row.{level_at}
use Rattle.flat_row.specs.Step.{NetAnswered}
use Rattle.flat_row.proofs.Siding.{returned_by, combs_by}
use Rattle.flat_row.proofs.side.Side.combs_come_back.Goals as goal

pub answer-requires-clause-there : goal.answer-requires-clause-there
answer-requires-clause-there c = omega (arith, c.combs_back.ensures.only.shape.many, c.requires.replies.many, c.shape-shape.ensures)

pub answer-requires-clause-wide : goal.answer-requires-clause-wide
answer-requires-clause-wide c = λ m small has_it. subst (λ n. m < n) (sym (c.combs_back.ensures.only.shape.queues c.shape-shape.result ∙ ap (λ n. length (level_at c.args.self.now.replies n).queues) c.shape-shape.ensures ∙ c.requires.replies.each c.args.project.now.k (omega arith))) (c.requires.wide m small has_it)

pub returns-clause-returned : goal.returns-clause-returned
returns-clause-returned c =
    returned_by c.args.project.now.k c.args.plan.now.back.leave c.args.modules c.args.answers.now c.args.plan.now.forth.turns c.args.plan.now.back.turns c.args.self.now c.combs_back.new.self c.answer.new.self c.turn.new.self
    c.combs_back.ensures.only (subst (λ k. NetAnswered k c.args.modules c.args.answers.now c.combs_back.new.self c.answer.new.self) c.shape-shape.ensures c.answer.ensures) c.combs_back.ensures.crossed.last c.turn.ensures.requests c.turn.ensures.replies c.turn.ensures.turns c.turn.ensures.back_turns

pub returns-clause-crossed : goal.returns-clause-crossed
returns-clause-crossed c =
    combs_by c.args.project.now c.is_project.ensures.project.small c.args.plan.now.back.leave c.args.modules c.args.answers.now c.args.self.now c.combs_back.new.self c.answer.new.self c.turn.new.self c.args.waits.now.items c.combs_back.new.waits.items
    c.combs_back.ensures.crossed (subst (λ k. NetAnswered k c.args.modules c.args.answers.now c.combs_back.new.self c.answer.new.self) c.shape-shape.ensures c.answer.ensures) c.turn.ensures.replies
