use Rattle.std.proofs.Common.{◌≡◌, replicate}
use Rattle.omega_net.specs.Ports.{empty}
use Rattle.flat_row.proofs.level.empty_queues.Given as goal

abbrev pub invariant-loop-x : goal.invariant-loop-x
invariant-loop-x g l = l.queues.items ≡ replicate l._x empty
