use Rattle.flat_row.proofs.Deciding.{both}
use Rattle.flat_row.proofs.decide.both.Goals as goal

pub returns : goal.returns
returns c = both c.args.by c.args.set c.at_first.result c.to_first.result c.at_first.ensures c.to_first.ensures
