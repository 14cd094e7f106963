use Rattle.flat_row.proofs.Marking.{four}
use Rattle.flat_row.proofs.marks.with_shown.Goals as goal

pub returns : goal.returns
returns c = four c.args.marks _ c.args.shown c.args.x c.with_mark.ensures c.with_mark-2.ensures c.with_mark-3.ensures c.with_mark-4.ensures
