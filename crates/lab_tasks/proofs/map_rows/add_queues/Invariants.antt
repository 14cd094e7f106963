use Rattle.std.proofs.Common.{◌≡◌, ◌++◌, map, take}
use Rattle.lab_tasks.proofs.map_rows.add_queues.Given as goal

abbrev pub invariant-loop-row : goal.invariant-loop-row
invariant-loop-row l = l.queues.items ≡ l.initial.queues.items ++ map (λ r. r.queue) (take l.row-index l.rows)
