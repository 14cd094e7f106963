use Rattle.std.proofs.Common.{◌≡◌, map, take}
use Rattle.svg_plots.specs.CurvePanels.{spot_in}
use Rattle.svg_plots.proofs.curves.spots_of.Given as goal

abbrev pub invariant-loop-point : goal.invariant-loop-point
invariant-loop-point l = l.spots.items ≡ map (spot_in l.area) (take l.point-index l.points)
