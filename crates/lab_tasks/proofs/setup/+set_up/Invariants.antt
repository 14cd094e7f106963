use Rattle.std.proofs.Common.{length}
use Rattle.lab_tasks.proofs.setup.+set_up.Given as goal

abbrev pub decreases-set_up : goal.decreases-set_up
decreases-set_up l = length l.words.now
