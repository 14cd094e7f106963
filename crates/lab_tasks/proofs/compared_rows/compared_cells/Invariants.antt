use Rattle.std.proofs.Common.{◌≡◌, map, take}
use Rattle.lab_tasks.specs.Columns.{farthest_columns}
use Rattle.lab_tasks.proofs.compared_rows.compared_cells.Given as goal

abbrev pub invariant-loop-row : goal.invariant-loop-row
invariant-loop-row l = l.cells.items ≡ map (farthest_columns l.depth l.window) (take l.row-index l.all)
