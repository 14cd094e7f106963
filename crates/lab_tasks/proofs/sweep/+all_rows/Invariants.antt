use Rattle.std.proofs.Common.{length}
use Rattle.lab_tasks.proofs.sweep.+all_rows.Given as goal

abbrev pub decreases-all_rows : goal.decreases-all_rows
decreases-all_rows l = length l.all.now
