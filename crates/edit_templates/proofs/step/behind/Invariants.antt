use Rattle.std.proofs.Common.{◌≡◌, map, take}
use Rattle.std.specs.List.{flat_map}
use Rattle.edit_templates.specs.Steps.{followed}
use Rattle.edit_templates.proofs.step.behind.Given as goal

abbrev pub invariant-loop-step : goal.invariant-loop-step
invariant-loop-step l = l.rows.items ≡ flat_map (λ step. map (followed step) l.others) (take l.step-index l.axis)
