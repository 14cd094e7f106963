use Rattle.omega_net.proofs.Mutual.{near_is_mutual}
use Rattle.omega_net.proofs.near.near_is_mutual.Goals as goal

pub returns : goal.returns
returns c = near_is_mutual
