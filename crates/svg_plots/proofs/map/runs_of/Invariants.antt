use Rattle.std.proofs.Common.{◌≡◌, ◌++◌, drop}
use Rattle.svg_plots.specs.CellMaps.{runs, runs_from}
use Rattle.svg_plots.proofs.map.runs_of.Given as goal

abbrev pub invariant-loop-at : goal.invariant-loop-at
invariant-loop-at l = runs l.row ≡ l.runs.items ++ runs_from l.from l.number l.at (drop l.at l.row)
