use Rattle.std.proofs.Common.{◌≡◌, take}
use Rattle.lab_tasks.specs.Columns.{farthest_of}
use Rattle.lab_tasks.proofs.columns.farthest.Given as goal

abbrev pub invariant-loop-number : goal.invariant-loop-number
invariant-loop-number l = l.far ≡ farthest_of l.middle (take l.number-index l.numbers)
