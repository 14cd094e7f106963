use Rattle.std.proofs.Common.{◌≡◌, drop}
use Rattle.edit_templates.specs.Edited.{after_edits}
use Rattle.edit_templates.proofs.edited.after_edits.Given as goal

abbrev pub invariant-loop-edit : goal.invariant-loop-edit
invariant-loop-edit l = after_edits l.after (drop l.edit-index l.edits) ≡ after_edits l.project l.edits
