use Rattle.std.proofs.Common.{refl}
use Rattle.change_rows.proofs.Lined.{marks_more}
use Rattle.change_rows.proofs.marks.marks_of.Goals as goal

pub loop-u-preserved : goal.loop-u-preserved
loop-u-preserved c = marks_more c.args.words.now c.args.from c.loop-u.u c.loop-u.word c.loop-u.invariant _ refl
