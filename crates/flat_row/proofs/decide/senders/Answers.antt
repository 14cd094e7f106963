use Rattle.flat_row.proofs.Deciding.{senders}
use Rattle.flat_row.proofs.decide.senders.Goals as goal

pub returns : goal.returns
returns c = senders c.args.by c.args.from_first c.args.from_second c.at_first.result c.to_first.result c.to_second.result c.at_second.result c.at_first.ensures c.to_first.ensures c.to_second.ensures c.at_second.ensures
