use Rattle.std.proofs.Common.{◌+◌, ◌∙◌, sym, subst}
use Rattle.omega_net.specs.Numbers.{lines}
use Rattle.flat_row.specs.Row.{Network, HasLevels}
use Rattle.flat_row.specs.Moving.{AllWaitBack}
use Rattle.flat_row.specs.Stages.{CombBack}
use Rattle.flat_row.proofs.Siding.{replies_only}
use Rattle.flat_row.proofs.Still.{combs_still}
use Rattle.flat_row.proofs.side.Side.combs_back.Goals as goal

pub combs_back-requires-clause-levels : goal.combs_back-requires-clause-levels
combs_back-requires-clause-levels c = subst (λ (n : Network). HasLevels (c.args.project.now.k + 1) (lines c.args.project.now.k) n.replies) (sym c.self.view_is) c.requires.levels

pub combs_back-requires-clause-some : goal.combs_back-requires-clause-some
combs_back-requires-clause-some c = subst (λ (n : Network). AllWaitBack c.args.project.now.k c.args.leave.now n.replies) (sym c.self.view_is) c.requires.some

pub returns-clause-only : goal.returns-clause-only
returns-clause-only c = replies_only c.args.self.now c.self.inside.requests.items c.self.inside.replies.items c.self.inside.turns c.self.inside.back_turns c.self.view_is c.combs_back.new.levels.items c.combs_back.ensures.shape

pub returns-clause-crossed : goal.returns-clause-crossed
returns-clause-crossed c =
    subst (λ (n : Network). CombBack c.args.project.now c.args.leave.now n.replies c.combs_back.new.levels.items c.args.waits.now.items c.combs_back.new.waits.items) c.self.view_is c.combs_back.ensures

pub returns-then-are_empty-clause-crossed : goal.returns-then-are_empty-clause-crossed
returns-then-are_empty-clause-crossed c = combs_still c.args.project.now c.args.leave.now c.args.self.now.replies c.args.waits.now.items (sym c.are_empty.ensures ∙ c.if-are_empty.true)
