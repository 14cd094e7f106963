use Rattle.std.proofs.Common.{arith}
use Rattle.flat_row.proofs.Deciding.{from_second}
use Rattle.flat_row.proofs.decide.from_second.Goals as goal

pub returns : goal.returns
returns c = from_second c.args.by c.args.heads c.args.room c.args.turn c.at_second.result c.to_first.result c.requires (omega arith) c.to_first.ensures c.at_second.ensures
