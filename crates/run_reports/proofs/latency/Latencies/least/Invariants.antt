use Rattle.std.proofs.Common.{◌≡◌, None}
use Rattle.run_reports.specs.Figures.{first_that, is_taken}
use Rattle.run_reports.proofs.latency.Latencies.least.Given as goal

abbrev pub invariant-loop-latency : goal.invariant-loop-latency
invariant-loop-latency l = first_that (is_taken l.self.histogram.items) l.latency ≡ None
