use Rattle.std.proofs.Common.{[], length, arith}
use Rattle.svg_plots.proofs.Each.{each_item}
use Rattle.report_pictures.specs.SeriesPictures.{middle_at}
use Rattle.report_pictures.proofs.curves.middles_of.Goals as goal

pub loop-number-preserved : goal.loop-number-preserved
loop-number-preserved c =
    each_item (middle_at c.args.bins (length c.args.all.now) c.args.place) [] c.args.all.now c.loop-number.number 0 c.loop-number.number c.index-all-number.result _ _
    c.loop-number-test.true (omega arith) c.index-all-number.is c.loop-number.invariant c.in_ok-add_middle.ensures
