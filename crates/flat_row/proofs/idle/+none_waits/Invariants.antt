use Rattle.std.proofs.Common.{length}
use Rattle.flat_row.proofs.idle.+none_waits.Given as goal

abbrev pub decreases-none_waits : goal.decreases-none_waits
decreases-none_waits g l = length l.levels.now
