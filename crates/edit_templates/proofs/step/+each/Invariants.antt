use Rattle.std.proofs.Common.{length}
use Rattle.edit_templates.proofs.step.+each.Given as goal

abbrev pub decreases-each : goal.decreases-each
decreases-each l = length l.axes.now
