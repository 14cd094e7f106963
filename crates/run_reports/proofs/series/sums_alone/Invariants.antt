use Rattle.std.proofs.Common.{◌≡◌, take, map}
use Rattle.run_reports.proofs.series.sums_alone.Given as goal

abbrev pub invariant-loop-sum : goal.invariant-loop-sum
invariant-loop-sum l = l.alone.items ≡ map (λ s. s.sum) (take l.sum-index l.sums)
