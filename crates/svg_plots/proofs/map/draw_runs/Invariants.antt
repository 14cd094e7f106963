use Rattle.std.proofs.Common.{◌≡◌, ◌++◌, take}
use Rattle.std.specs.List.{flat_map}
use Rattle.svg_plots.specs.CellMaps.{run_drawn}
use Rattle.svg_plots.proofs.map.draw_runs.Given as goal

abbrev pub invariant-loop-run : goal.invariant-loop-run
invariant-loop-run l = l.picture ≡ l.initial.picture ++ flat_map (run_drawn l.map l.layout l.top) (take l.run-index l.runs)
