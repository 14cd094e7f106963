use Rattle.std.proofs.Common.{◌∙◌, ◌^◌, sym}
use Rattle.change_lists.proofs.Places.{begins_at_place, stands_here, stood_before}
use Rattle.change_lists.proofs.begun.sides_at.Goals as goal

pub returns-then-not-is_at-clause-begins : goal.returns-then-not-is_at-clause-begins
returns-then-not-is_at-clause-begins g c = sym (begins_at_place (2 ^ 32) c.args.t c.place-i.result c.args.begun.now c.requires c.ranges.t.fits c.place-i.ensures ∙ sym c.is_at.ensures ∙ c.if-not-is_at.true)

pub last_of-requires-clause-begun : goal.last_of-requires-clause-begun
last_of-requires-clause-begun g c = (stood_before (2 ^ 32) c.args.t c.place-i.result c.args.begun.now c.requires c.ranges.t.fits c.place-i.ensures).0

pub last_of-requires-2-clause-begun : goal.last_of-requires-2-clause-begun
last_of-requires-2-clause-begun g c = (stands_here (2 ^ 32) c.args.t c.place-i.result c.args.begun.now c.requires c.ranges.t.fits c.place-i.ensures (sym c.is_at.ensures ∙ c.if-not-is_at.false)).1

pub returns-clause-begins : goal.returns-clause-begins
returns-clause-begins g c = sym (begins_at_place (2 ^ 32) c.args.t c.place-i.result c.args.begun.now c.requires c.ranges.t.fits c.place-i.ensures ∙ sym c.is_at.ensures ∙ c.if-not-is_at.false)

pub returns-clause-before : goal.returns-clause-before
returns-clause-before g c = c.last_of.ensures ∙ (stood_before (2 ^ 32) c.args.t c.place-i.result c.args.begun.now c.requires c.ranges.t.fits c.place-i.ensures).1

pub returns-clause-at : goal.returns-clause-at
returns-clause-at g c = c.last_of-2.ensures ∙ (stands_here (2 ^ 32) c.args.t c.place-i.result c.args.begun.now c.requires c.ranges.t.fits c.place-i.ensures (sym c.is_at.ensures ∙ c.if-not-is_at.false)).2
