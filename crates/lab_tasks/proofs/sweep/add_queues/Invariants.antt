use Rattle.std.proofs.Common.{◌≡◌, ◌++◌, take}
use Rattle.lab_tasks.specs.SweepTables.{queue_names}
use Rattle.lab_tasks.proofs.sweep.add_queues.Given as goal

abbrev pub invariant-loop-swept : goal.invariant-loop-swept
invariant-loop-swept l = l.names.items ≡ l.initial.names.items ++ queue_names (take l.swept-index l.all)
