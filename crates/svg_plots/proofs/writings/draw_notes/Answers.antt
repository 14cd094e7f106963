use Rattle.std.proofs.Common.{arith}
use Rattle.svg_plots.specs.Writings.{note_drawn}
use Rattle.svg_plots.proofs.Each.{each_item}
use Rattle.svg_plots.proofs.writings.draw_notes.Goals as goal

pub loop-at-preserved : goal.loop-at-preserved
loop-at-preserved c =
    each_item (note_drawn c.args.top) c.args.picture.now c.args.notes.now c.loop-at.at 0 c.loop-at.at c.index-notes-at.result _ _ c.loop-at-test.true (omega arith) c.index-notes-at.is c.loop-at.invariant (rw c.as_str.ensures at c.in_ok-draw_note.ensures)
