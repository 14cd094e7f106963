use Rattle.std.proofs.Common.{◌≡◌, sum, take, None}
use Rattle.run_reports.specs.Figures.{first_that, covers}
use Rattle.run_reports.proofs.latency.Latencies.percentile.Given as goal

abbrev pub invariant-loop-latency : goal.invariant-loop-latency
invariant-loop-latency l = record {
  within : l.within ≡ sum (take l.latency l.self.histogram.items);
  none : first_that (covers l.share l.self.histogram.items) l.latency ≡ None;
}
