use Rattle.std.proofs.Common.{◌∙◌, ap, sym}
use Rattle.std.specs.Prelude.{Some}
use Rattle.lab_tasks.specs.Answered.{cell_at}
use Rattle.lab_tasks.proofs.Answering.{cell-next}
use Rattle.lab_tasks.proofs.answered.add_said.Goals as goal

pub loop-place-preserved : goal.loop-place-preserved
loop-place-preserved c =
    cell-next (cell_at c.args.form c.args.says.now) c.loop-place.place c.args.cells.now.items c.loop-place.cells.items c.push.new.self.items c.new.result
    c.loop-place.invariant c.in_ok-push.ensures.items (ap Some c.new.ensures ∙ sym c.in_ok-cell.ensures)
