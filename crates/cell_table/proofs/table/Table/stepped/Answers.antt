use Rattle.std.proofs.Common.{◌∙◌, ap, sym, map, Some}
use Rattle.std.specs.Arc.{arc_value}
use Rattle.due_cells.specs.Seen.{Seen}
use Rattle.cell_table.proofs.Shortcut.{steps_current, ok_along}
use Rattle.cell_table.proofs.table.Table.stepped.Goals as goal

pub returns : goal.returns
returns g c =
    let i = c.self.inside in
    let R = g.G.Grid.rules in
    let v : Seen g.row.G-State.Denot g.row.G-Slots.Denot = record { slots = i.slots; horizon = i.horizon; clock = i.clock; rows = i.cells } in
    let whole = rw (← c.self.view_is) at (sym (rw c.if-all.true at c.in_ok-all.ensures)) in
    rw (← c.self.view_is) (ok_along (λ x e. e ∙ steps_current R v c.args.cell.cycle c.args.cell.component g.G.Grid.laws c.requires.later _ (whole ∙ ap (λ ys. Some (map arc_value ys)) (sym c.as_slice.ensures.value))) c.step.result c.step.ensures)
