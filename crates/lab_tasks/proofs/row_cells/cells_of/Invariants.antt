use Rattle.std.proofs.Common.{◌≡◌, map, take}
use Rattle.lab_tasks.specs.Columns.{greatest_columns}
use Rattle.lab_tasks.proofs.row_cells.cells_of.Given as goal

abbrev pub invariant-loop-row : goal.invariant-loop-row
invariant-loop-row l = l.cells.items ≡ map (greatest_columns l.window) (take l.row-index l.lengths)
