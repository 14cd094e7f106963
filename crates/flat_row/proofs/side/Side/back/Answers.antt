use Rattle.std.proofs.Common.{◌+◌, ◌∙◌, ap, sym, subst}
use Rattle.omega_net.specs.Numbers.{lines}
use Rattle.flat_row.specs.Row.{Network, HasLevels}
use Rattle.flat_row.specs.Moving.{AllWaitBack, back_after}
use Rattle.flat_row.proofs.Siding.{replies_only}
use Rattle.flat_row.proofs.Still.{back_same}
use Rattle.flat_row.proofs.side.Side.back.Goals as goal

pub move_back-requires-clause-levels : goal.move_back-requires-clause-levels
move_back-requires-clause-levels c = subst (λ (n : Network). HasLevels (c.args.shape + 1) (lines c.args.shape) n.replies) (sym c.self.view_is) c.requires.levels

pub move_back-requires-clause-some : goal.move_back-requires-clause-some
move_back-requires-clause-some c = subst (λ (n : Network). AllWaitBack c.args.shape c.args.leave.now n.replies) (sym c.self.view_is) c.requires.some

pub returns-clause-only : goal.returns-clause-only
returns-clause-only c = replies_only c.args.self.now c.self.inside.requests.items c.self.inside.replies.items c.self.inside.turns c.self.inside.back_turns c.self.view_is c.move_back.new.levels.items c.move_back.ensures.shape

pub returns-clause-queues : goal.returns-clause-queues
returns-clause-queues c = λ l z within small.
    c.move_back.ensures.queues l z within small ∙ ap (λ (n : Network). back_after (λ y. y.tag.proc) c.args.shape c.args.leave.now n.replies l z) c.self.view_is

pub returns-then-are_empty-clause-queues : goal.returns-then-are_empty-clause-queues
returns-then-are_empty-clause-queues c = λ l z within small.
    sym (back_same c.args.shape c.args.leave.now (sym c.are_empty.ensures ∙ c.if-are_empty.true) (λ y. y.tag.proc) c.args.self.now.replies l z)
