use Rattle.std.proofs.Common.{◌≡◌, ◌≤◌, map}
use Rattle.omega_net.specs.Wires.{below}
use Rattle.machine_cells.specs.Run.{run}
use Rattle.machine_cells.specs.Runs.{state_in}
use Rattle.run_reports.specs.Runners.{IsAt}
use Rattle.run_reports.specs.Series.{bin_of, start_of}
use Rattle.run_reports.proofs.series.series_sums.Given as goal

abbrev pub invariant-loop-number : goal.invariant-loop-number
invariant-loop-number l = record {
  at : IsAt l.project l.runner;
  behind : l.runner.cycle ≤ start_of l.bins l.number;
  all : l.all.items ≡ map (bin_of l.project.k (state_in (run l.project)) l.gauges l.bins) (below l.number);
}
