use Rattle.comb_switch.proofs.held.messages_are_held.Goals as goal
use Rattle.comb_switch.proofs.Holding as laws

pub returns : goal.returns
returns c = laws.messages_are_held
