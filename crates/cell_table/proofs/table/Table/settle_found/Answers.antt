use Rattle.std.specs.Arc.{arc_value}
use Rattle.cell_table.proofs.Waves.{state_found, before_found}
use Rattle.cell_table.proofs.table.Table.settle_found.Goals as goal

pub settle_state-requires-clause-computed : goal.settle_state-requires-clause-computed
settle_state-requires-clause-computed g c =
    state_found g.G.Grid.rules g.G.Grid.laws c.args.self.now (rw (← c.self.view_is) c.self.invariant.table) c.args.cell.cycle c.args.cell.component c.requires.there (arc_value c.in-Some-Ok-Some.state) (rw (c.in-Some-Ok-Some.is, c.in-Some-Ok-Some.field-0-is, c.in-Some-Ok-Some.field-0-0-is) at c.requires.found)

pub settle_again-requires-clause-computed : goal.settle_again-requires-clause-computed
settle_again-requires-clause-computed g c =
    before_found g.G.Grid.rules g.G.Grid.laws c.args.self.now (rw (← c.self.view_is) c.self.invariant.table) c.args.cell.cycle c.args.cell.component c.requires.there (rw (c.in-Some-Ok-None.is, c.in-Some-Ok-None.field-0-is, c.in-Some-Ok-None.field-0-0-is) at c.requires.found)
