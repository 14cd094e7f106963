use Rattle.std.proofs.Common.{rules}
use Rattle.due_cells.specs.Seen.{Seen}
use Rattle.cell_table.proofs.ConeRuns.{cone_settled}
use Rattle.cell_table.proofs.Counted.{cone_stands}
use Rattle.cell_table.proofs.table.Table.due_cone.Goals as goal

pub returns-clause-count : goal.returns-clause-count
returns-clause-count g c = search rules

pub returns-clause-headline_due : goal.returns-clause-headline_due
returns-clause-headline_due g c = cone_stands g.G.Grid.rules c.args.self.now c.args.cell.cycle c.args.cell.component c.due_down.result (returns-clause-count g c)

pub returns-clause-run : goal.returns-clause-run
returns-clause-run g c =
    let i = c.self.inside in
    let v : Seen g.row.G-State.Denot g.row.G-Slots.Denot = record { slots = i.slots; horizon = i.horizon; clock = i.clock; rows = i.cells } in
    rw (← c.self.view_is) (cone_settled g.G.Grid.rules v c.args.cell.cycle c.args.cell.component c.due_down.result g.G.Grid.laws c.self.invariant.table.consistent c.due_down.ensures)
