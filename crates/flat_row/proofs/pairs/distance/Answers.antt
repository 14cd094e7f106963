use Rattle.flat_row.proofs.Masking.{distance_small}
use Rattle.flat_row.proofs.pairs.distance.Goals as goal

pub returns-clause-within : goal.returns-clause-within
returns-clause-within c = distance_small c.args.by c.requires
