use Rattle.run_reports.proofs.Tallying.{SoFar}
use Rattle.run_reports.proofs.latency.counted.Given as goal

abbrev pub invariant-loop-reference : goal.invariant-loop-reference
invariant-loop-reference l = SoFar l.condition l.longest l.reference-index l.references l.latencies
