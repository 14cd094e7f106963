use Rattle.std.proofs.Common.{◌≡◌, ◌+◌, map}
use Rattle.omega_net.specs.Numbers.{components}
use Rattle.omega_net.specs.Wires.{below}
use Rattle.machine_cells.specs.Run.{run}
use Rattle.machine_cells.specs.Runs.{state_in}
use Rattle.monitor_sums.specs.declared.counter.Counter.TheVariants.{Answered, Served}
use Rattle.experiments.specs.Flows.{counted_at}
use Rattle.run_reports.specs.Runners.{IsAt}
use Rattle.experiments.proofs.flows.flows_of.Given as goal

abbrev pub invariant-loop-cycle : goal.invariant-loop-cycle
invariant-loop-cycle l = record {
  at : IsAt l.project l.runner;
  cycle : l.runner.cycle ≡ l._cycle;
  answered : l.flows.answered.items ≡ map (counted_at Answered (state_in (run l.project)) (components l.project.k)) (below (l._cycle + 1));
  served : l.flows.served.items ≡ map (counted_at Served (state_in (run l.project)) (components l.project.k)) (below (l._cycle + 1));
}
