use Rattle.std.proofs.Common.{arith}
use Rattle.flat_row.proofs.Masking.{to_second}
use Rattle.flat_row.proofs.pairs.to_second.Goals as goal

pub returns : goal.returns
returns c = to_second c.args.by c.args.set c.first_ports.result c.distance.result (omega arith) c.first_ports.ensures c.distance.ensures.value
