use Rattle.std.proofs.Common.{◌≡◌, take}
use Rattle.svg_plots.specs.Lists.{few_of}
use Rattle.svg_plots.specs.CellMaps.{rows_in}
use Rattle.svg_plots.proofs.map.rows_in.Given as goal

abbrev pub invariant-loop-group : goal.invariant-loop-group
invariant-loop-group l = l.rows ≡ few_of (rows_in (take l.group-index l.groups))
