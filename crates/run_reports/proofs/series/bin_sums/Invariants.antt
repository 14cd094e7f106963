use Rattle.std.proofs.Common.{◌≡◌, ◌≤◌, ◌+◌, map}
use Rattle.machine_cells.specs.Run.{run}
use Rattle.machine_cells.specs.Runs.{state_in}
use Rattle.run_reports.specs.Runners.{IsAt}
use Rattle.run_reports.specs.Summing.{summed}
use Rattle.run_reports.proofs.series.bin_sums.Given as goal

abbrev pub invariant-loop-passed : goal.invariant-loop-passed
invariant-loop-passed l = record {
  at : IsAt l.project l.runner;
  behind : l.runner.cycle ≤ l.first + l.passed;
  sums : l.sums.items ≡ map (summed l.project.k (state_in (run l.project)) l.first l.passed) l.gauges;
}
