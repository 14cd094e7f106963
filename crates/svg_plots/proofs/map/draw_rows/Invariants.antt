use Rattle.std.proofs.Common.{◌≡◌, ◌++◌, take}
use Rattle.svg_plots.specs.Lists.{each_from}
use Rattle.svg_plots.specs.CellMaps.{row_drawn}
use Rattle.svg_plots.proofs.map.draw_rows.Given as goal

abbrev pub invariant-loop-at : goal.invariant-loop-at
invariant-loop-at l = l.picture ≡ l.initial.picture ++ each_from (row_drawn l.map l.layout) l.first (take l.at l.rows)
