use Rattle.std.proofs.Common.{◌≡◌, arith}
use Rattle.project_file.proofs.expanding.push_references.Goals as goal

pub returns : goal.returns
returns c = let all : c.loop-turn.turn ≡ c.args.stepped.times = omega arith in rw (← all) c.loop-turn.invariant
