use Rattle.machine_cells.proofs.laws.messages_stay.Goals as goal
use Rattle.machine_cells.proofs.Staying as laws

pub returns : goal.returns
returns c = laws.messages_stay
