use Rattle.std.specs.Arc.{arc_value}
use Rattle.cell_table.proofs.Waves.{inputs_there, finds}
use Rattle.cell_table.proofs.table.Table.find.Goals as goal

pub computed-requires-clause-ready : goal.computed-requires-clause-ready
computed-requires-clause-ready g c =
    inputs_there g.G.Grid.rules g.G.Grid.laws c.args.self.now (rw (← c.self.view_is) c.self.invariant.table) c.args.cell.cycle c.args.cell.component c.requires

pub returns : goal.returns
returns g c =
    finds g.G.Grid.rules g.G.Grid.laws c.args.self.now (rw (← c.self.view_is) c.self.invariant.table) c.args.cell.cycle c.args.cell.component c.requires arc_value c.computed.result c.computed.ensures
