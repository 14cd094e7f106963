use Rattle.std.proofs.Common.{◌≡◌, take}
use Rattle.lab_tasks.specs.ComparedMaps.{most_longer}
use Rattle.lab_tasks.proofs.compared_rows.longer.Given as goal

abbrev pub invariant-loop-number : goal.invariant-loop-number
invariant-loop-number l = l.most ≡ most_longer l.depth (take l.number-index l.numbers)
