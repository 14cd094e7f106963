use Rattle.std.proofs.Common.{◌≡◌, max, take}
use Rattle.std.specs.List.{fold}
use Rattle.lab_tasks.proofs.columns.greatest.Given as goal

abbrev pub invariant-loop-number : goal.invariant-loop-number
invariant-loop-number l = l.most ≡ fold (λ most n. max most n) 0 (take l.number-index l.numbers)
