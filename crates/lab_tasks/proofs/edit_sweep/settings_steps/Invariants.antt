use Rattle.std.proofs.Common.{◌≡◌, map, take}
use Rattle.lab_tasks.specs.EditSweeps.{settings_step}
use Rattle.lab_tasks.proofs.edit_sweep.settings_steps.Given as goal

abbrev pub invariant-loop-row : goal.invariant-loop-row
invariant-loop-row l = l.steps.items ≡ map settings_step (map (λ row. row.items) (take l.row-index l.rows))
