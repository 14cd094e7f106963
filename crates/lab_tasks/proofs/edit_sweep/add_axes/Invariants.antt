use Rattle.std.proofs.Common.{◌≡◌, ◌++◌, take}
use Rattle.lab_tasks.specs.EditSweeps.{axes_names}
use Rattle.lab_tasks.proofs.edit_sweep.add_axes.Given as goal

abbrev pub invariant-loop-axis : goal.invariant-loop-axis
invariant-loop-axis l = l.cells.items ≡ l.initial.cells.items ++ axes_names (take l.axis-index l.axes)
