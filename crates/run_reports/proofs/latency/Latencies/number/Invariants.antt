use Rattle.std.proofs.Common.{◌≡◌, sum, take}
use Rattle.run_reports.proofs.latency.Latencies.number.Given as goal

abbrev pub invariant-loop-some : goal.invariant-loop-some
invariant-loop-some l = l.number ≡ sum (take l.some-index l.some-items)
