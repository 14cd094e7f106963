use Rattle.std.proofs.Common.{◌≡◌, ◌++◌, take}
use Rattle.svg_plots.specs.Lists.{each}
use Rattle.svg_plots.specs.CellMaps.{key_drawn}
use Rattle.svg_plots.proofs.map.draw_keys.Given as goal

abbrev pub invariant-loop-at : goal.invariant-loop-at
invariant-loop-at l = l.picture ≡ l.initial.picture ++ each (key_drawn l.map l.layout) (take l.at l.keys)
