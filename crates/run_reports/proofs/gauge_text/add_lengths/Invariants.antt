use Rattle.std.proofs.Common.{◌≡◌, ◌++◌, take, map}
use Rattle.run_reports.specs.declared.gauge.Gauge.TheVariants.{Length}
use Rattle.run_reports.proofs.gauge_text.add_lengths.Given as goal

abbrev pub invariant-loop-queue : goal.invariant-loop-queue
invariant-loop-queue l = l.all.items ≡ l.initial.all.items ++ map Length (take l.queue-index l.queues)
