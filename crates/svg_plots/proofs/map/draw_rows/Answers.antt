use Rattle.std.proofs.Common.{◌+◌, arith}
use Rattle.svg_plots.specs.CellMaps.{row_drawn}
use Rattle.svg_plots.proofs.Each.{each_item}
use Rattle.svg_plots.proofs.map.draw_rows.Goals as goal

pub loop-at-preserved : goal.loop-at-preserved
loop-at-preserved c =
    each_item (row_drawn c.args.map.now c.args.layout) c.args.picture.now c.args.rows.now c.loop-at.at c.args.first (c.args.first + c.loop-at.at) c.index-rows-at.result _ _ c.loop-at-test.true (omega arith) c.index-rows-at.is c.loop-at.invariant c.in_ok-draw_row.ensures
