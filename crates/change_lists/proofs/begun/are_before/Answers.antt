use Rattle.std.proofs.Common.{arith, ap, ◌-◌, ◌^◌, ◌<◌}
use Rattle.change_lists.specs.declared.begun.Begun.{Begun}
use Rattle.change_lists.proofs.Places.{before_more}
use Rattle.change_lists.proofs.begun.are_before.Goals as goal

pub returns-then-begun-i : goal.returns-then-begun-i
returns-then-begun-i g c = λ yes k d m.
    let low : c.index-begun-i.result.from < c.args.t = omega (arith, ap (λ (b : Begun g.row.V.Denot). b.from) c.index-begun-i.is, c.if-begun-i.true) in
    before_more (2 ^ 32) c.args.t (c.args.i - 1) c.args.begun.now c.index-begun-i.result c.requires.rises
    (omega (arith, c.if-i-eq0.false, c.requires.within)) c.index-begun-i.is low k d (omega (arith, c.if-i-eq0.false, m))
