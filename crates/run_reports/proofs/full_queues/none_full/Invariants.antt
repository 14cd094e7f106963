use Rattle.std.proofs.Common.{◌≡◌, take, map}
use Rattle.run_reports.specs.Filling.{never}
use Rattle.run_reports.proofs.full_queues.none_full.Given as goal

abbrev pub invariant-loop-queue : goal.invariant-loop-queue
invariant-loop-queue l = l.all.items ≡ map never (take l.queue-index l.queues)
