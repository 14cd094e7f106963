use Rattle.std.proofs.Common.{◌≡◌, ◌≤◌, ◌*◌, sum, take}
use Rattle.std.specs.Prelude.{slice_index}
use Rattle.monitor_sums.specs.Adding.{sum_below}
use Rattle.run_reports.proofs.figures.total.Given as goal

abbrev pub invariant-loop-latency : goal.invariant-loop-latency
invariant-loop-latency l = record {
  added : l.total ≡ sum_below (λ d. d * slice_index l.numbers d) l.latency;
  few : l.total ≤ 65536 * sum (take l.latency l.numbers);
}
