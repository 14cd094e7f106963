use Rattle.omega_net.proofs.Neighbours.{near_within}
use Rattle.omega_net.proofs.shape.Shape.near.Goals as goal

pub returns-clause-there : goal.returns-clause-there
returns-clause-there c = rw c.near_numbers.ensures.listed (near_within _ _ c.requires)
