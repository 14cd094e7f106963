use Rattle.edit_templates.proofs.Editing.{edit-refused, edit-done}
use Rattle.edit_templates.proofs.edited.after_edits.Goals as goal

pub returns-in-Err-clause-refused : goal.returns-in-Err-clause-refused
returns-in-Err-clause-refused c =
    edit-refused c.loop-edit.after c.args.edits.now c.loop-edit.edit-index _ c.in-Err.fault c.apply.result _ c.loop-edit-test.true c.loop-edit.invariant c.in-Err.is
    c.apply.ensures.refused c.apply.ensures.accepted

pub loop-edit-preserved : goal.loop-edit-preserved
loop-edit-preserved c =
    edit-done c.loop-edit.after c.in-Ok.edited c.args.edits.now c.loop-edit.edit-index _ c.apply.result _ _ c.loop-edit-test.true c.loop-edit.invariant c.in-Ok.is
    c.apply.ensures.refused c.in-Ok.ensures.edited
