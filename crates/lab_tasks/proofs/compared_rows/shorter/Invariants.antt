use Rattle.std.proofs.Common.{◌≡◌, take}
use Rattle.lab_tasks.specs.ComparedMaps.{most_shorter}
use Rattle.lab_tasks.proofs.compared_rows.shorter.Given as goal

abbrev pub invariant-loop-number : goal.invariant-loop-number
invariant-loop-number l = l.most ≡ most_shorter l.depth (take l.number-index l.numbers)
