use Rattle.std.proofs.Common.{◌≡◌, ◌%◌, ◌^◌, map, take, sum}
use Rattle.grid_law.proofs.line.lent_sum.Given as goal

abbrev pub invariant-loop-number : goal.invariant-loop-number
invariant-loop-number l = l.sum ≡ sum (map (λ state. state.now) (take l.number-index l.near)) % 2 ^ 32
