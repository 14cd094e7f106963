use Rattle.due_cells.specs.Seen.{Seen}
use Rattle.cell_table.specs.Settling.{NoneDueBefore, IsNextDue}
use Rattle.cell_table.proofs.Passes.{comes_ahead}
use Rattle.cell_table.proofs.table.Table.row_ahead.Goals as goal

pub returns-then-from-eq0-clause-at : goal.returns-then-from-eq0-clause-at
returns-then-from-eq0-clause-at g c =
    let R = g.G.Grid.rules in
    let i = c.self.inside in
    let v : Seen g.row.G-State.Denot g.row.G-Slots.Denot = record { slots = i.slots; horizon = i.horizon; clock = i.clock; rows = i.cells } in
    let from = c.args.from in
    let cell = c.in-Some.cell in
    let none : NoneDueBefore R v from.cycle from.component = rw (← c.self.view_is) at c.requires.none in
    let next : IsNextDue R v from.cycle from.component cell = rw (← c.self.view_is) at c.in-Some.ensures.0 in
    rw (← c.self.view_is) (comes_ahead R g.G.Grid.laws v c.self.invariant.table from.cycle from.component cell none next c.if-from-eq0.either)
