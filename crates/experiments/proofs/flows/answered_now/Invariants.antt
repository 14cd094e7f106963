use Rattle.std.proofs.Common.{◌≡◌, ◌*◌, ◌≤◌}
use Rattle.machine_cells.specs.Run.{run}
use Rattle.machine_cells.specs.Runs.{state_in}
use Rattle.monitor_sums.specs.declared.counter.Counter.TheVariants.{Answered}
use Rattle.experiments.specs.Flows.{counted_at}
use Rattle.experiments.proofs.flows.answered_now.Given as goal

abbrev pub invariant-loop-p : goal.invariant-loop-p
invariant-loop-p l = (l.sum ≡ counted_at Answered (state_in (run l.project)) l.p l.runner.cycle) × (l.sum ≤ 2 * l.p)
