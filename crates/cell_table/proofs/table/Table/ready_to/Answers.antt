use Rattle.std.proofs.Common.{◌≡◌, arith, ap}
use Rattle.grid_law.specs.Run.{run}
use Rattle.due_cells.specs.Seen.{Seen}
use Rattle.cell_table.proofs.Asking.{ready_before, ready_where_held}
use Rattle.cell_table.proofs.table.Table.ready_to.Goals as goal

pub returns-then-due_to-eq0 : goal.returns-then-due_to-eq0
returns-then-due_to-eq0 g c = λ t d h there.
    let v = c.args.self.now in
    let end : c.self.inside.horizon ≡ v.horizon = ap (λ (w : Seen g.row.G-State.Denot g.row.G-Slots.Denot). w.horizon) c.self.view_is in
    ready_where_held g.G.Grid.rules g.G.Grid.laws v (run g.G.Grid.rules v.slots) (λ u e here. c.due_to.ensures.run c.if-due_to-eq0.true u e (omega (arith, here.cycle, end)) here) t d there

pub returns-then-self-end : goal.returns-then-self-end
returns-then-self-end g c = λ t d h there.
    ready_before g.G.Grid.rules g.G.Grid.laws c.args.self.now c.self.inside.held (rw (← c.self.view_is) c.self.invariant.states) t d (omega (arith, h)) there

pub returns-else-self-end : goal.returns-else-self-end
returns-else-self-end g c = λ t d h there.
    ready_before g.G.Grid.rules g.G.Grid.laws c.args.self.now c.self.inside.held (rw (← c.self.view_is) c.self.invariant.states) t d (omega (arith, h, c.if-self-end.false)) there
