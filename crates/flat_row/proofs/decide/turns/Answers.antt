use Rattle.std.proofs.Common.{arith}
use Rattle.flat_row.proofs.Deciding.{turns}
use Rattle.flat_row.proofs.decide.turns.Goals as goal

pub returns : goal.returns
returns c = turns c.args.turn c.args.from_first c.args.from_second (omega arith) (omega arith)
