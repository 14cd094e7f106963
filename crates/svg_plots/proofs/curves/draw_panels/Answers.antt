use Rattle.std.proofs.Common.{length, arith}
use Rattle.svg_plots.specs.CurvePanels.{area_of, panel_drawn}
use Rattle.svg_plots.proofs.Each.{each_item}
use Rattle.svg_plots.proofs.curves.draw_panels.Goals as goal

pub loop-place-preserved : goal.loop-place-preserved
loop-place-preserved c =
    each_item (λ place panel. panel_drawn (area_of panel place (length c.args.panels.now)) panel) c.args.picture.now c.args.panels.now c.loop-place.place 0 c.loop-place.place c.index-panels-place.result _ _ c.loop-place-test.true (omega arith) c.index-panels-place.is c.loop-place.invariant (rw c.area_of-area.ensures.area at c.in_ok-draw_panel.ensures)
