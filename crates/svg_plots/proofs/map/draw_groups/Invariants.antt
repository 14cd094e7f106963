use Rattle.std.proofs.Common.{◌≡◌, ◌≤◌, ◌++◌, drop}
use Rattle.svg_plots.specs.CellMaps.{groups_drawn}
use Rattle.svg_plots.proofs.map.draw_groups.Given as goal

abbrev pub invariant-loop-group : goal.invariant-loop-group
invariant-loop-group l = (l.first ≤ 999) × (l.initial.picture ++ groups_drawn l.map l.layout 0 l.groups ≡ l.picture ++ groups_drawn l.map l.layout l.first (drop l.group-index l.groups))
