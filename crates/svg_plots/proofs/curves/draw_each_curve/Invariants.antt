use Rattle.std.proofs.Common.{◌≡◌, ◌++◌, take}
use Rattle.std.specs.List.{flat_map}
use Rattle.svg_plots.specs.CurvePanels.{curve_drawn}
use Rattle.svg_plots.proofs.curves.draw_each_curve.Given as goal

abbrev pub invariant-loop-curve : goal.invariant-loop-curve
invariant-loop-curve l = l.picture ≡ l.initial.picture ++ flat_map (curve_drawn l.area) (take l.curve-index l.curves)
