use Rattle.std.proofs.Common.{◌+◌, sym, subst}
use Rattle.omega_net.specs.Numbers.{lines}
use Rattle.flat_row.specs.Row.{Network, HasLevels}
use Rattle.flat_row.specs.Moving.{AllWait}
use Rattle.flat_row.specs.Stages.{CombForth}
use Rattle.flat_row.proofs.Siding.{requests_only}
use Rattle.flat_row.proofs.side.Side.combs_forth.Goals as goal

pub combs_forth-requires-clause-levels : goal.combs_forth-requires-clause-levels
combs_forth-requires-clause-levels c = subst (λ (n : Network). HasLevels (c.args.project.now.k + 2) (lines c.args.project.now.k) n.requests) (sym c.self.view_is) c.requires.levels

pub combs_forth-requires-clause-some : goal.combs_forth-requires-clause-some
combs_forth-requires-clause-some c = subst (λ (n : Network). AllWait c.args.project.now.k c.args.leave.now c.args.enter n.requests) (sym c.self.view_is) c.requires.some

pub returns-clause-only : goal.returns-clause-only
returns-clause-only c = requests_only c.args.self.now c.self.inside.requests.items c.self.inside.replies.items c.self.inside.turns c.self.inside.back_turns c.self.view_is c.combs_forth.new.levels.items c.combs_forth.ensures.shape

pub returns-clause-crossed : goal.returns-clause-crossed
returns-clause-crossed c =
    subst (λ (n : Network). CombForth c.args.project.now c.args.leave.now c.args.enter n.requests c.combs_forth.new.levels.items c.args.waits.now.items c.combs_forth.new.waits.items) c.self.view_is c.combs_forth.ensures
