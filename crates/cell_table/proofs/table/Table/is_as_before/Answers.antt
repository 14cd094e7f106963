use Rattle.std.proofs.Common.{◌≡◌, ◌-◌, ◌∙◌, sym, arith, All, subst}
use Rattle.due_cells.specs.Seen.{Seen, held_at}
use Rattle.cell_table.proofs.Shortcut.{as_before}
use Rattle.cell_table.proofs.table.Table.is_as_before.Goals as goal

pub returns-then-not-due : goal.returns-then-not-due
returns-then-not-due g c = λ e.
    let i = c.self.inside in
    let t = c.args.cell.cycle in
    let v : Seen g.row.G-State.Denot g.row.G-Slots.Denot = record { slots = i.slots; horizon = i.horizon; clock = i.clock; rows = i.cells } in
    let near = rw (← c.self.view_is) at c.near-near.ensures in
    let stay = subst (All (λ m. (held_at i.cells (t - 1 - 1) m).state ≡ (held_at i.cells (t - 1) m).state)) near (c.all_stay.ensures e) in
    rw (← c.self.view_is) (as_before g.G.Grid.rules v t c.args.cell.component c.self.invariant.table (rw (← c.self.view_is) at c.requires) (omega (arith, c.if-cell-lt2.false)) (rw (← c.self.view_is) at (sym c.due.ensures ∙ c.if-not-due.true)) stay)
