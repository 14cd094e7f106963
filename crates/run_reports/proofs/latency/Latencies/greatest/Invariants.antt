use Rattle.std.proofs.Common.{◌≡◌}
use Rattle.run_reports.specs.Figures.{last_that, is_taken}
use Rattle.run_reports.proofs.latency.Latencies.greatest.Given as goal

abbrev pub invariant-loop-latency : goal.invariant-loop-latency
invariant-loop-latency l = l.greatest ≡ last_that (is_taken l.self.histogram.items) l.latency
