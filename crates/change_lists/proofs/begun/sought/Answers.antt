use Rattle.std.proofs.Common.{arith, ap, ◌+◌, ◌-◌, ◌/◌, ◌^◌, ◌<◌}
use Rattle.change_lists.specs.declared.begun.Begun.{Begun}
use Rattle.change_lists.proofs.Places.{before_more}
use Rattle.change_lists.proofs.begun.sought.Goals as goal

pub loop-low-preserved-then-begun-middle : goal.loop-low-preserved-then-begun-middle
loop-low-preserved-then-begun-middle g c =
    let there : c.loop-low.low + (c.loop-low.high - c.loop-low.low) / 2 < c.loop-low.high = omega (arith, c.loop-low-test.true) in
    let low : c.index-begun-middle.result.from < c.args.t = omega (arith, ap (λ (b : Begun g.row.V.Denot). b.from) c.index-begun-middle.is, c.if-begun-middle.true) in
    record {
      ordered = omega (arith, there);
      within = c.loop-low.invariant.within;
      before = before_more (2 ^ 32) c.args.t (c.loop-low.low + (c.loop-low.high - c.loop-low.low) / 2) c.args.begun.now c.index-begun-middle.result c.requires (omega (arith, there, c.loop-low.invariant.within)) c.index-begun-middle.is low;
      behind = c.loop-low.invariant.behind;
    }
