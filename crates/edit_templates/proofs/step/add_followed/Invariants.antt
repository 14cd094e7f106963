use Rattle.std.proofs.Common.{◌≡◌, ◌++◌, map, take}
use Rattle.edit_templates.specs.Steps.{followed}
use Rattle.edit_templates.proofs.step.add_followed.Given as goal

abbrev pub invariant-loop-other : goal.invariant-loop-other
invariant-loop-other l = l.rows.items ≡ l.initial.rows.items ++ map (followed l.first) (take l.other-index l.others)
