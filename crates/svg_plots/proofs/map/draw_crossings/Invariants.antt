use Rattle.std.proofs.Common.{◌≡◌, ◌++◌, take}
use Rattle.svg_plots.specs.Lists.{each}
use Rattle.svg_plots.specs.CellMaps.{crossing_drawn}
use Rattle.svg_plots.proofs.map.draw_crossings.Given as goal

abbrev pub invariant-loop-at : goal.invariant-loop-at
invariant-loop-at l = l.picture ≡ l.initial.picture ++ each (crossing_drawn l.layout) (take l.at l.crossings)
