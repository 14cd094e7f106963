use Rattle.std.proofs.Common.{◌∙◌, ◌^◌, sym}
use Rattle.change_lists.proofs.Places.{stands_here, stands_before}
use Rattle.change_lists.proofs.begun.value_at.Goals as goal

pub last_of-requires-clause-begun : goal.last_of-requires-clause-begun
last_of-requires-clause-begun g c = (stands_here (2 ^ 32) c.args.t c.place-i.result c.args.begun.now c.requires c.ranges.t.fits c.place-i.ensures (sym c.is_at.ensures ∙ c.if-is_at.true)).1

pub returns-then-is_at : goal.returns-then-is_at
returns-then-is_at g c = c.last_of.ensures ∙ (stands_here (2 ^ 32) c.args.t c.place-i.result c.args.begun.now c.requires c.ranges.t.fits c.place-i.ensures (sym c.is_at.ensures ∙ c.if-is_at.true)).2

pub last_of-requires-2-clause-begun : goal.last_of-requires-2-clause-begun
last_of-requires-2-clause-begun g c = (stands_before (2 ^ 32) c.args.t c.place-i.result c.args.begun.now c.requires c.ranges.t.fits c.place-i.ensures (sym c.is_at.ensures ∙ c.if-is_at.false)).0

pub returns : goal.returns
returns g c = c.last_of-2.ensures ∙ (stands_before (2 ^ 32) c.args.t c.place-i.result c.args.begun.now c.requires c.ranges.t.fits c.place-i.ensures (sym c.is_at.ensures ∙ c.if-is_at.false)).1
