use Rattle.std.proofs.Common.{◌≡◌, ℕ, ◌+◌, ◌-◌, ◌≤◌, ◌==◌, ◌&&◌, ◌||◌, nat_le, nat_lt, All}
use Rattle.due_cells.specs.Ranges.{is_marked, IsWithin}
use Rattle.cell_table.specs.Touches.{cell_reads_one}
use Rattle.cell_table.proofs.table.Table.add_later.Given as goal

abbrev pub invariant-loop-from : goal.invariant-loop-from
invariant-loop-from g l = record {
  first : 1 ≤ l.from;
  to : l.from ≤ l.last + 1;
  within : All (IsWithin (l.last + 1) (g.G.Grid.rules.components l.self.slots)) l.ranges.items;
  at : (t c : ℕ) → t ≤ l.last → is_marked l.ranges.items t c
      ≡ (is_marked l.initial.ranges.items t c || ((c == l.component) && ((nat_le 1 t && nat_lt t l.from) && cell_reads_one g.G.Grid.rules l.self.slots l.self.rows l.slot t l.component)));
}

abbrev pub decreases-loop-from : goal.decreases-loop-from
decreases-loop-from g l = l.last + 1 - l.from
