use Rattle.std.proofs.Common.{◌≡◌, ℕ, ◌<◌, false}
use Rattle.due_cells.specs.Seen.{held_at}
use Rattle.cell_table.specs.Cells.{IsThere, AtOrAfter}
use Rattle.cell_table.proofs.table.Table.next_due_before.Given as goal

abbrev pub invariant-loop-cycle : goal.invariant-loop-cycle
invariant-loop-cycle g l = (t c : ℕ) → IsThere g.G.Grid.rules l.self t c → AtOrAfter l.from.cycle l.from.component t c → t < l.cycle → (held_at l.self.rows t c).is_due ≡ false
