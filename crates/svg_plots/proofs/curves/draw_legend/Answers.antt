use Rattle.std.proofs.Common.{◌≡◌, [], drop, arith}
use Rattle.std.proofs.Math.ListN.{drop_of_length-le}
use Rattle.svg_plots.proofs.Legends.{legend_kept, legend_end}
use Rattle.svg_plots.proofs.curves.draw_legend.Goals as goal

pub loop-curve-preserved : goal.loop-curve-preserved
loop-curve-preserved c = (
  c.place_after-place.ensures.few,
  rw c.place_after-place.ensures.place (legend_kept c.args.columns _ c.loop-curve.picture c.draw_named.new.picture c.args.curves.now c.loop-curve.curve-index c.loop-curve.place c.curve-item.result
      c.loop-curve-test.true c.curve-item.is c.loop-curve.invariant.1 c.in_ok-draw_named.ensures),
)

pub returns : goal.returns
returns c =
    let none : drop c.loop-curve.curve-index c.args.curves.now ≡ [] = drop_of_length-le c.args.curves.now (omega arith) in
    legend_end c.args.columns _ c.loop-curve.picture c.loop-curve.place (rw none at c.loop-curve.invariant.1)
