use Rattle.std.proofs.Common.{◌≡◌, ◌+◌, replicate}
use Rattle.monitor_sums.specs.Kept.{blank}
use Rattle.monitor_sums.proofs.sums.no_counts.Given as goal

abbrev pub invariant-loop-component : goal.invariant-loop-component
invariant-loop-component l = l.counts.items ≡ replicate l._component (blank (l.last + 1))
