use Rattle.std.proofs.Common.{◌≡◌, ◌++◌, take}
use Rattle.svg_plots.specs.Lists.{each}
use Rattle.svg_plots.specs.CellMaps.{stroke_drawn}
use Rattle.svg_plots.proofs.map.draw_each_stroke.Given as goal

abbrev pub invariant-loop-column : goal.invariant-loop-column
invariant-loop-column l = l.picture ≡ l.initial.picture ++ each (stroke_drawn l.layout) (take l.column l.strokes)
