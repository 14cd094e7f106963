use Rattle.std.proofs.Common.{length}
use Rattle.edit_templates.proofs.template.+add_behind.Given as goal

abbrev pub decreases-add_behind : goal.decreases-add_behind
decreases-add_behind l = length l.braces.now
