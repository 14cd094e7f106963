use Rattle.std.proofs.Common.{◌≤◌, take}
use Rattle.cell_table.proofs.Alike.{StaysFor}
use Rattle.cell_table.proofs.table.Table.alike_to.Given as goal

abbrev pub invariant-loop-component : goal.invariant-loop-component
invariant-loop-component g l = record {
  before : l.to ≤ l.fn.end;
  stays : StaysFor g.G.Grid.rules l.self l.fn.cell.cycle l.changes l.fn.cell.component l.to (take l.component-index l.component-items);
}
