use Rattle.std.proofs.Common.{arith}
use Rattle.svg_plots.specs.CellMaps.{stroke_drawn}
use Rattle.svg_plots.proofs.Each.{each_kept}
use Rattle.svg_plots.proofs.map.draw_each_stroke.Goals as goal

pub loop-column-preserved : goal.loop-column-preserved
loop-column-preserved c =
    each_kept (stroke_drawn c.args.layout) c.args.picture.now c.args.strokes.now c.loop-column.column 0 c.loop-column.column _ _ _ c.loop-column-test.true (omega arith) c.loop-column.invariant c.in_ok-draw_stroke.ensures
