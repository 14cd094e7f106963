use Rattle.std.proofs.Common.{length}
use Rattle.edit_templates.proofs.step.+steps_at.Given as goal

abbrev pub decreases-steps_at : goal.decreases-steps_at
decreases-steps_at l = length l.axes.now
