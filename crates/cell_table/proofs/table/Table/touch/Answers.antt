use Rattle.cell_table.proofs.Answering.{touch_stands}
use Rattle.cell_table.proofs.EditCosting.{touch_costs}
use Rattle.cell_table.proofs.table.Table.touch.Goals as goal

pub returns-clause-headline_stands : goal.returns-clause-headline_stands
returns-clause-headline_stands g c =
    touch_stands g.G.Grid.rules g.G.Grid.laws c.args.self.now c.touch_plain.new.self c.touch_plain.result c.args.next c.args.changed.slots.items _ c.requires c.touch_plain.ensures.ok

pub returns-clause-cost : goal.returns-clause-cost
returns-clause-cost g c =
    touch_costs g.G.Grid.rules g.G.Grid.laws c.args.self.now c.touch_plain.new.self c.touch_plain.result c.args.next c.args.changed.slots.items _ c.requires c.touch_plain.ensures.ok
