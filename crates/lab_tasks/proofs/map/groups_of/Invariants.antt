use Rattle.std.proofs.Common.{◌≡◌, map, take}
use Rattle.lab_tasks.specs.MapPictures.{group_of}
use Rattle.lab_tasks.proofs.map.groups_of.Given as goal

abbrev pub invariant-loop-stage : goal.invariant-loop-stage
invariant-loop-stage l = l.groups.items ≡ map (group_of l.plan) (take l.stage-index l.stages)
