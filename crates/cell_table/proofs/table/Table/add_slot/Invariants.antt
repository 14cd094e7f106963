use Rattle.std.proofs.Common.{◌≡◌, ℕ, ◌+◌, ◌≤◌, ◌&&◌, ◌||◌, All, drop}
use Rattle.std.specs.List.{list_any}
use Rattle.cell_table.specs.Reads.{is_reader}
use Rattle.due_cells.specs.Ranges.{is_marked, IsWithin}
use Rattle.cell_table.specs.Touches.{cell_reads_one}
use Rattle.cell_table.proofs.table.Table.add_slot.Given as goal

abbrev pub invariant-loop-reader : goal.invariant-loop-reader
invariant-loop-reader g l = record {
  within : All (IsWithin (l.last + 1) (g.G.Grid.rules.components l.self.slots)) l.ranges.items;
  at : (t c : ℕ) → t ≤ l.last → (is_marked l.ranges.items t c || (list_any (λ r. is_reader r t c) (drop l.reader-index l.reader-items) && cell_reads_one g.G.Grid.rules l.self.slots l.self.rows l.slot t c))
      ≡ (is_marked l.initial.ranges.items t c || (list_any (λ r. is_reader r t c) l.reader-items && cell_reads_one g.G.Grid.rules l.self.slots l.self.rows l.slot t c));
}
