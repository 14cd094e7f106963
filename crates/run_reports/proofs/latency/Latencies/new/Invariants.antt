use Rattle.std.proofs.Common.{◌≡◌}
use Rattle.std.specs.Prelude.{replicate}
use Rattle.run_reports.proofs.latency.Latencies.new.Given as goal

abbrev pub invariant-loop-latency : goal.invariant-loop-latency
invariant-loop-latency l = l.histogram.items ≡ replicate l._latency 0
