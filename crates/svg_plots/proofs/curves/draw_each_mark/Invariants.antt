use Rattle.std.proofs.Common.{◌≡◌, ◌++◌, map, take}
use Rattle.svg_plots.specs.declared.element.Element.TheVariants.{Marked}
use Rattle.svg_plots.specs.CurvePanels.{spot_in}
use Rattle.svg_plots.proofs.curves.draw_each_mark.Given as goal

abbrev pub invariant-loop-point : goal.invariant-loop-point
invariant-loop-point l = l.picture ≡ l.initial.picture ++ map (λ point. Marked (spot_in l.area point) l.mark l.colour) (take l.point-index l.points)
