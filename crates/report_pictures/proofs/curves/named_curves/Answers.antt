use Rattle.std.proofs.Common.{[], arith}
use Rattle.svg_plots.proofs.Each.{each_kept}
use Rattle.report_pictures.specs.SeriesPictures.{gauge_curves}
use Rattle.report_pictures.proofs.curves.named_curves.Goals as goal

pub loop-place-preserved : goal.loop-place-preserved
loop-place-preserved c =
    each_kept (λ place name. gauge_curves c.args.bins c.args.all.now place name.now) [] c.args.names.now c.loop-place.place 0 c.loop-place.place _ c.loop-place.curves.items _
    c.loop-place-test.true (omega arith) c.loop-place.invariant c.in_ok-add_gauge.ensures
