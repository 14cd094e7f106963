use Rattle.std.proofs.Common.{◌+◌, ◌-◌, ◌*◌, ◌≤◌}
use Rattle.cell_table.specs.Cells.{AtOrAfter}
use Rattle.cell_table.specs.Settling.{IsAt}
use Rattle.cell_table.specs.Tended.{IsWorked}
use Rattle.cell_table.proofs.table.Table.settle_all.Given as goal

abbrev pub invariant-loop-passed : goal.invariant-loop-passed
invariant-loop-passed g l = record {
  at : IsAt g.G.Grid.rules l.initial.self l.self l.from.cycle l.from.component l.computed;
  before : AtOrAfter l.from.cycle l.from.component l.fn.end 0;
  within : l.fn.end ≤ l.self.horizon + 1;
  worked : IsWorked g.G.Grid.rules g.G.Grid.codec g.M.WholeRow.stands g.M.WholeRow.state (g.W.Watcher.keeps l.watcher) l.self l.spare l.along l.beside;
}

abbrev pub decreases-loop-passed : goal.decreases-loop-passed
decreases-loop-passed g l = 4294967296 * (l.self.horizon + 1 - l.from.cycle) + (4294967296 - l.from.component)
