use Rattle.omega_net.proofs.queues.nothing_is_lost.Goals as goal
use Rattle.omega_net.proofs.Keeping as laws

pub returns : goal.returns
returns c = laws.nothing_is_lost
