use Rattle.std.proofs.Common.{length}
use Rattle.flat_row.proofs.idle.+none_combined.Given as goal

abbrev pub decreases-none_combined : goal.decreases-none_combined
decreases-none_combined l = length l.stages.now
