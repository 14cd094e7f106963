use Rattle.std.proofs.Common.{◌≡◌, ◌++◌, drop}
use Rattle.lab_tasks.specs.RowCells.{groups_with}
use Rattle.lab_tasks.proofs.row_cells.groups_with.Given as goal

abbrev pub invariant-loop-group : goal.invariant-loop-group
invariant-loop-group l = groups_with l.fn.groups l.fn.cells ≡ l.made.items ++ groups_with (drop l.group-index l.groups) l.rest
