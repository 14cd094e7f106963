use Rattle.std.proofs.Common.{◌+◌, ◌∙◌, ap, sym, subst}
use Rattle.omega_net.specs.Numbers.{lines}
use Rattle.flat_row.specs.Row.{Network, HasLevels}
use Rattle.flat_row.specs.Moving.{AllWait, forth_after}
use Rattle.flat_row.proofs.Siding.{requests_only}
use Rattle.flat_row.proofs.Still.{forth_same}
use Rattle.flat_row.proofs.side.Side.forth.Goals as goal

pub move_forth-requires-clause-levels : goal.move_forth-requires-clause-levels
move_forth-requires-clause-levels c = subst (λ (n : Network). HasLevels (c.args.shape + 2) (lines c.args.shape) n.requests) (sym c.self.view_is) c.requires.levels

pub move_forth-requires-clause-some : goal.move_forth-requires-clause-some
move_forth-requires-clause-some c = subst (λ (n : Network). AllWait c.args.shape c.args.leave.now c.args.enter n.requests) (sym c.self.view_is) c.requires.some

pub returns-clause-only : goal.returns-clause-only
returns-clause-only c = requests_only c.args.self.now c.self.inside.requests.items c.self.inside.replies.items c.self.inside.turns c.self.inside.back_turns c.self.view_is c.move_forth.new.levels.items c.move_forth.ensures.shape

pub returns-clause-queues : goal.returns-clause-queues
returns-clause-queues c = λ l z within small.
    c.move_forth.ensures.queues l z within small ∙ ap (λ (n : Network). forth_after (λ r. r.place.«module») c.args.shape c.args.leave.now c.args.enter n.requests l z) c.self.view_is

pub returns-then-are_empty-clause-queues : goal.returns-then-are_empty-clause-queues
returns-then-are_empty-clause-queues c = λ l z within small.
    sym (forth_same c.args.shape c.args.leave.now (sym c.are_empty.ensures ∙ c.if-are_empty.true) (λ r. r.place.«module») c.args.self.now.requests c.args.enter c.if-enter-eq0.true l z)
