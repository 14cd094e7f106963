use Rattle.std.proofs.Common.{arith}
use Rattle.svg_plots.specs.CellMaps.{crossing_drawn}
use Rattle.svg_plots.proofs.Each.{each_item}
use Rattle.svg_plots.proofs.map.draw_crossings.Goals as goal

pub loop-at-preserved : goal.loop-at-preserved
loop-at-preserved c =
    each_item (crossing_drawn c.args.layout) c.args.picture.now c.args.crossings.now c.loop-at.at 0 c.loop-at.at c.index-crossings-at.result _ _ c.loop-at-test.true (omega arith) c.index-crossings-at.is c.loop-at.invariant c.in_ok-draw_crossing.ensures
