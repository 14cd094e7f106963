use Rattle.std.proofs.Common.{arith}
use Rattle.svg_plots.proofs.Each.{each_kept}
use Rattle.report_pictures.specs.SeriesPictures.{mark_at}
use Rattle.report_pictures.proofs.curves.add_marks.Goals as goal

pub loop-number-preserved : goal.loop-number-preserved
loop-number-preserved c =
    each_kept (mark_at c.args.name.now c.args.place) c.args.curves.now.items c.args.middles.now c.loop-number.number 0 c.loop-number.number _ c.loop-number.curves.items _
    c.loop-number-test.true (omega arith) c.loop-number.invariant c.in_ok-add_mark.ensures
