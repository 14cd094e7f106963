use Rattle.std.proofs.Common.{◌≡◌, take, map, slice_get}
use Rattle.run_reports.specs.Filling.{with_cycle}
use Rattle.run_reports.proofs.full_queues.add_cycle.Given as goal

abbrev pub invariant-loop-first : goal.invariant-loop-first
invariant-loop-first l = l.all.items ≡ map (with_cycle l.project (slice_get l.states.items) l.runner.cycle) (take l.first-index l.before)
