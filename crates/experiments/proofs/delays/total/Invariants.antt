use Rattle.std.proofs.Common.{◌≡◌, ◌+◌, sum, drop}
use Rattle.experiments.proofs.delays.total.Given as goal

abbrev pub invariant-loop-number : goal.invariant-loop-number
invariant-loop-number l = (l.total + sum (drop l.number-index l.numbers)) ≡ sum l.numbers
