use Rattle.std.proofs.Common.{◌≡◌, ℕ, ◌+◌, ◌<◌, ◌≤◌, ◌||◌, All, drop}
use Rattle.due_cells.specs.Ranges.{is_marked, IsWithin}
use Rattle.cell_table.specs.Touches.{cell_reads}
use Rattle.cell_table.proofs.table.Table.marks.Given as goal

abbrev pub invariant-loop-slot : goal.invariant-loop-slot
invariant-loop-slot g l = record {
  within : All (IsWithin (l.last + 1) (g.G.Grid.rules.components l.self.slots)) l.ranges.items;
  at : (t c : ℕ) → t ≤ l.last → c < g.G.Grid.rules.components l.self.slots → (is_marked l.ranges.items t c || cell_reads g.G.Grid.rules l.self.slots l.self.rows (drop l.slot-index l.listed) t c)
      ≡ cell_reads g.G.Grid.rules l.self.slots l.self.rows l.listed t c;
}
