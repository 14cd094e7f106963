use Rattle.comb_switch.proofs.combine.requests_are_kept.Goals as goal
use Rattle.comb_switch.proofs.Arriving as laws

pub returns : goal.returns
returns c = laws.requests_are_kept
