use Rattle.std.proofs.Common.{◌≡◌, take}
use Rattle.lab_tasks.specs.MapRows.{queues_in}
use Rattle.lab_tasks.proofs.map_rows.queues_in.Given as goal

abbrev pub invariant-loop-group : goal.invariant-loop-group
invariant-loop-group l = l.queues.items ≡ queues_in (take l.group-index l.groups)
