use Rattle.std.proofs.Common.{◌≡◌, arith}
use Rattle.project_file.proofs.processors.numbers_from.Goals as goal

pub returns-clause-numbers : goal.returns-clause-numbers
returns-clause-numbers c = let all : c.loop-index.index ≡ c.args.count = omega arith in rw (← all) c.loop-index.invariant.so_far

pub returns-clause-within : goal.returns-clause-within
returns-clause-within c = c.loop-index.invariant.within
