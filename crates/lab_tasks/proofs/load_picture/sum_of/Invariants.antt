use Rattle.std.proofs.Common.{◌≡◌, ◌≤◌, ◌*◌, ◌^◌, sum, take}
use Rattle.lab_tasks.proofs.load_picture.sum_of.Given as goal

abbrev pub invariant-loop-number : goal.invariant-loop-number
invariant-loop-number l = (l.sum ≤ l.number-index * 2 ^ 32) × (l.sum ≡ sum (take l.number-index l.numbers))
