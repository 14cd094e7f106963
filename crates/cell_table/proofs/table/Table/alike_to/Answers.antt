use Rattle.std.proofs.Common.{arith}
use Rattle.cell_table.proofs.Alike.{stays_more, stays_all}
use Rattle.cell_table.proofs.table.Table.alike_to.Goals as goal

pub loop-component-preserved : goal.loop-component-preserved
loop-component-preserved g c =
    let inv = c.loop-component.invariant in
    let e = c.alike_near-to.ensures in
    record {
      before = omega (arith, inv.before, e.before);
      stays = stays_more g.G.Grid.rules c.args.self.now c.args.cell.cycle c.args.changes.now c.args.cell.component c.loop-component.to c.alike_near-to.result c.near-component-items.result.now c.loop-component.component-index 0 c.loop-component-test.true inv.stays e.before e.stays;
    }

pub returns-clause-stays : goal.returns-clause-stays
returns-clause-stays g c =
    stays_all g.G.Grid.rules c.args.self.now c.args.cell.cycle c.args.changes.now c.args.cell.component c.loop-component.to c.near-component-items.result.now c.loop-component.component-index c.loop-component-test.false c.near-component-items.ensures c.loop-component.invariant.stays
