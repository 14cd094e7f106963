use Rattle.std.proofs.Common.{arith}
use Rattle.flat_row.proofs.Deciding.{from_first}
use Rattle.flat_row.proofs.decide.from_first.Goals as goal

pub returns : goal.returns
returns c = from_first c.args.by c.args.heads c.args.room c.args.turn c.at_first.result c.to_second.result (omega arith) (omega arith) c.at_first.ensures c.to_second.ensures
