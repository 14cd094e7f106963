use Rattle.std.proofs.Common.{◌≡◌, ◌≤◌, ◌+◌, map}
use Rattle.omega_net.specs.Wires.{below}
use Rattle.machine_cells.specs.Run.{run}
use Rattle.machine_cells.specs.Runs.{state_in}
use Rattle.run_reports.specs.Lengths.{lengths_at}
use Rattle.run_reports.specs.Runners.{IsAt}
use Rattle.run_reports.proofs.lengths.lengths_each.Given as goal

abbrev pub invariant-loop-passed : goal.invariant-loop-passed
invariant-loop-passed l = record {
  at : IsAt l.project l.runner;
  behind : l.runner.cycle ≤ l.window.from + l.passed;
  cycles : l.cycles.items ≡ map (λ i. lengths_at l.queues (state_in (run l.project) (l.window.from + i))) (below l.passed);
}
