use Rattle.std.proofs.Common.{[], arith}
use Rattle.svg_plots.specs.CellMaps.{step_drawn}
use Rattle.svg_plots.proofs.Each.{each_kept}
use Rattle.svg_plots.proofs.map.level_spots.Goals as goal

pub loop-column-preserved : goal.loop-column-preserved
loop-column-preserved c =
    each_kept (step_drawn c.args.map.now c.args.layout) [] c.args.levels.now c.loop-column.column 0 c.loop-column.column _ c.loop-column.spots.items _ c.loop-column-test.true (omega arith) c.loop-column.invariant c.in_ok-add_step.ensures
