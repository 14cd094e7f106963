use Rattle.std.proofs.Common.{◌≡◌, take, slice_get}
use Rattle.run_reports.specs.Lengths.{lengths_at}
use Rattle.run_reports.proofs.lengths.lengths_now.Given as goal

abbrev pub invariant-loop-queue : goal.invariant-loop-queue
invariant-loop-queue l = l.numbers.items ≡ lengths_at (take l.queue-index l.queues) (slice_get l.states.items)
