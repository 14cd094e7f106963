use Rattle.std.proofs.Common.{◌≡◌, ◌++◌}
use Rattle.lab_tasks.specs.RowCells.{rows_with}
use Rattle.lab_tasks.proofs.row_cells.rows_with.Given as goal

abbrev pub invariant-loop-row : goal.invariant-loop-row
invariant-loop-row l = rows_with l.fn.rows l.fn.cells ≡ l.made.items ++ rows_with l.row-iterator.a.rest.now l.row-iterator.b.rest.now
