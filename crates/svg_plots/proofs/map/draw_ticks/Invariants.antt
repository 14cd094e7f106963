use Rattle.std.proofs.Common.{◌≡◌, ◌++◌, take}
use Rattle.std.specs.List.{flat_map}
use Rattle.svg_plots.specs.CellMaps.{tick_drawn}
use Rattle.svg_plots.proofs.map.draw_ticks.Given as goal

abbrev pub invariant-loop-tick : goal.invariant-loop-tick
invariant-loop-tick l = l.picture ≡ l.initial.picture ++ flat_map (tick_drawn l.layout) (take l.tick-index l.ticks)
