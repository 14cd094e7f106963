use Rattle.std.proofs.Common.{◌≡◌, ℕ, ◌-◌, ◌<◌, ◌≤◌, true, length}
use Rattle.due_cells.specs.Seen.{held_at}
use Rattle.cell_table.specs.Repeating.{StaysAlikeTo}
use Rattle.cell_table.proofs.table.Table.alike_end.Given as goal

abbrev pub invariant-loop-component : goal.invariant-loop-component
invariant-loop-component g l = record {
  from : l.from ≤ length l.changes;
  before : l.to ≤ l.end;
  stays : (c : ℕ) → c < l.from → (held_at l.self.rows l.cycle c).is_due ≡ true → StaysAlikeTo g.G.Grid.rules l.self l.cycle l.changes c l.to;
}

abbrev pub decreases-loop-component : goal.decreases-loop-component
decreases-loop-component g l = length l.changes - l.from
