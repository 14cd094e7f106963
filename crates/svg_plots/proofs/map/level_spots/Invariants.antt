use Rattle.std.proofs.Common.{◌≡◌, take}
use Rattle.svg_plots.specs.Lists.{each}
use Rattle.svg_plots.specs.CellMaps.{step_drawn}
use Rattle.svg_plots.proofs.map.level_spots.Given as goal

abbrev pub invariant-loop-column : goal.invariant-loop-column
invariant-loop-column l = l.spots.items ≡ each (step_drawn l.map l.layout) (take l.column l.levels)
