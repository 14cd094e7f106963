use Rattle.std.proofs.Common.{◌<◌, arith, length}
use Rattle.change_rows.proofs.Merging.{taken_end}
use Rattle.change_rows.proofs.merge.seek.Goals as goal

pub loop-i-preserved : goal.loop-i-preserved
loop-i-preserved c =
    let i = c.loop-i.i in
    let there : i < length c.args.cells.now = omega (arith, c.len.ensures.count, c.loop-i-test.true) in
    record {
      order = omega (arith, c.loop-i.invariant.order);
      within = omega (arith, there);
      below = omega (arith, taken_end c.args.cells.now i there, c.loop-i.invariant.below, c.component.ensures, c.if-component-c.true);
    }
