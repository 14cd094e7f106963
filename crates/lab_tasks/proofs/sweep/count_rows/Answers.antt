use Rattle.std.proofs.Common.{◌-◌, ◌^◌, arith}
use Rattle.lab_tasks.proofs.RowCounts.{rows-next, rows-last}
use Rattle.lab_tasks.proofs.sweep.count_rows.Goals as goal

pub loop-swept-preserved : goal.loop-swept-preserved
loop-swept-preserved c = record {
  capped = omega arith;
  left =
      rows-next (2 ^ 32 - 1) c.loop-swept.rows c.saturating_mul-rows.result c.count_of.result c.loop-swept.swept-index _ c.args.all.now c.swept-item.result
      c.loop-swept-test.true c.swept-item.is c.count_of.ensures.count c.saturating_mul-rows.ensures c.loop-swept.invariant.left;
}

pub returns : goal.returns
returns c = rows-last (2 ^ 32 - 1) c.loop-swept.rows c.loop-swept.swept-index _ c.args.all.now c.loop-swept-test.false c.loop-swept.invariant.capped c.loop-swept.invariant.left
