use Rattle.std.proofs.Common.{◌≡◌, take}
use Rattle.std.specs.List.{flat_map}
use Rattle.lab_tasks.specs.PlotPictures.{row_spot}
use Rattle.lab_tasks.proofs.plot.spots_of.Given as goal

abbrev pub invariant-loop-row : goal.invariant-loop-row
invariant-loop-row l = l.spots.items ≡ flat_map (row_spot l.x l.y) (take l.row-index l.rows)
