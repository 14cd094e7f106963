use Rattle.std.proofs.Common.{◌<◌, ◌∙◌, ap, sym, subst, length, arith}
use Rattle.flat_row.specs.Row.{Network, level_at}
use Rattle.flat_row.proofs.Siding.{level_is, answered_in}
use Rattle.flat_row.proofs.side.Side.answer.Goals as goal

pub index_mut-level-requires : goal.index_mut-level-requires
index_mut-level-requires c =
    let many = ap (λ (n : Network). length n.replies) c.self.view_is in
    let there : c.k-last.result < length c.self.inside.replies.items = omega (arith, many, c.requires.there, c.k-last.ensures.value) in
    omega (arith, there)

pub answer-requires : goal.answer-requires
answer-requires c = λ m small has_it.
    let many = ap (λ (n : Network). length n.replies) c.self.view_is in
    let there : c.k-last.result < length c.self.inside.replies.items = omega (arith, many, c.requires.there, c.k-last.ensures.value) in
    let found = level_is c.self.inside.replies.items c.k-last.result c.index_mut-level.result.now c.index_mut-level.result.now there c.index_mut-level.ensures.value in
    let was = ap (λ (n : Network). level_at n.replies c.k-last.result) c.self.view_is ∙ ap (level_at c.args.self.now.replies) c.k-last.ensures.value in
    subst (λ v. m < length v.queues) (sym (found ∙ was)) (c.requires.wide m small has_it)

pub returns : goal.returns
returns c =
    let many = ap (λ (n : Network). length n.replies) c.self.view_is in
    let there : c.k-last.result < length c.self.inside.replies.items = omega (arith, many, c.requires.there, c.k-last.ensures.value) in
    answered_in c.args.self.now c.self.inside.requests.items c.self.inside.replies.items c.self.inside.turns c.self.inside.back_turns c.self.view_is c.args.shape c.k-last.result c.args.modules c.args.answers.now c.index_mut-level.result.now c.answer.new.level c.k-last.ensures.value there c.index_mut-level.ensures.value c.answer.ensures.shape c.answer.ensures.answered
