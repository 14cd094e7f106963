use Rattle.machine_cells.proofs.laws.no_message_is_lost.Goals as goal
use Rattle.machine_cells.proofs.Keeping as laws

pub returns : goal.returns
returns c = laws.no_message_is_lost
