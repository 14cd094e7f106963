use Rattle.std.proofs.Common.{◌≡◌, map, take}
use Rattle.lab_tasks.specs.Columns.{greatest_of}
use Rattle.lab_tasks.specs.ComparedMaps.{most_shorter}
use Rattle.lab_tasks.proofs.compared_rows.most_shorter.Given as goal

abbrev pub invariant-loop-row : goal.invariant-loop-row
invariant-loop-row l = l.most ≡ greatest_of (map (most_shorter l.depth) (take l.row-index l.all))
