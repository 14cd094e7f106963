use Rattle.std.proofs.Common.{◌≡◌, replicate}
use Rattle.monitor_sums.proofs.sums.filled.Given as goal

abbrev pub invariant-loop-copy : goal.invariant-loop-copy
invariant-loop-copy g l = l.filled.items ≡ replicate l._copy l.value
