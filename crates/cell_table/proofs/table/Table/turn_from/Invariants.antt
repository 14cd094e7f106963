use Rattle.std.proofs.Common.{◌≡◌, ℕ, ◌+◌, ◌-◌, ◌<◌, ◌≤◌, false}
use Rattle.cell_table.specs.Touches.{cell_reads_one}
use Rattle.cell_table.proofs.table.Table.turn_from.Given as goal

abbrev pub invariant-loop-low : goal.invariant-loop-low
invariant-loop-low g l = record {
  from : l.from ≤ l.low;
  order : l.low ≤ l.high;
  high : l.high ≤ l.last + 1;
  none : (t : ℕ) → l.from ≤ t → t < l.low → cell_reads_one g.G.Grid.rules l.self.slots l.self.rows l.slot t l.component ≡ false;
}

abbrev pub decreases-loop-low : goal.decreases-loop-low
decreases-loop-low g l = l.high - l.low
