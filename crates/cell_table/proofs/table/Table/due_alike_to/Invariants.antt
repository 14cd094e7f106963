use Rattle.std.proofs.Common.{◌≡◌, ℕ, ◌<◌, ◌||◌}
use Rattle.due_cells.specs.Seen.{held_at}
use Rattle.cell_states.specs.Filling.{is_awake}
use Rattle.cell_table.proofs.table.Table.due_alike_to.Given as goal

abbrev pub invariant-loop-to : goal.invariant-loop-to
invariant-loop-to g l =
    (c u : ℕ) → c < g.G.Grid.rules.components l.self.slots → l.cycle < u → u < l.to → ((held_at l.self.rows u c).is_due || is_awake l.reached c) ≡ (held_at l.self.rows l.cycle c).is_due
