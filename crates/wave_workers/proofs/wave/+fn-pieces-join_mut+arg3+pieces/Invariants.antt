use Rattle.std.proofs.Common.{◌+◌, ◌*◌, length}
use Rattle.wave_workers.proofs.wave.+fn-pieces-join_mut+arg3+pieces.Given as goal

abbrev pub decreases-join_mut+arg3 : goal.decreases-join_mut+arg3
decreases-join_mut+arg3 g l = 2 * length l.others.now + 1

abbrev pub decreases-pieces : goal.decreases-pieces
decreases-pieces g l = 2 * length l.gates.now
