use Rattle.comb_switch.proofs.returns.replies_are_kept.Goals as goal
use Rattle.comb_switch.proofs.Keeping as laws

pub returns : goal.returns
returns c = laws.replies_are_kept
