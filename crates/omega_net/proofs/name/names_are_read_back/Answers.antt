use Rattle.omega_net.proofs.NameLaws.{names_read_back}
use Rattle.omega_net.proofs.name.names_are_read_back.Goals as goal

pub returns : goal.returns
returns c = names_read_back
