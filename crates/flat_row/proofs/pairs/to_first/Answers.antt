use Rattle.flat_row.proofs.Masking.{to_first}
use Rattle.flat_row.proofs.pairs.to_first.Goals as goal

pub returns : goal.returns
returns c = to_first c.args.by c.args.set c.first_ports.result c.distance.result c.first_ports.ensures c.distance.ensures.value
