use Rattle.std.proofs.Common.{◌≡◌, map, take}
use Rattle.lab_tasks.specs.MapPictures.{row_of}
use Rattle.lab_tasks.proofs.map.rows_of.Given as goal

abbrev pub invariant-loop-queue : goal.invariant-loop-queue
invariant-loop-queue l = l.rows.items ≡ map (row_of l.plan l.stage) (take l.queue-index l.queues)
