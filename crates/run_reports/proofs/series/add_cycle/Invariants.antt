use Rattle.std.proofs.Common.{◌≡◌, take, map, slice_get}
use Rattle.run_reports.specs.Summing.{with_states}
use Rattle.run_reports.proofs.series.add_cycle.Given as goal

abbrev pub invariant-loop-sum : goal.invariant-loop-sum
invariant-loop-sum l = l.all.items ≡ map (with_states l.shape (slice_get l.states.items)) (take l.sum-index l.before)
