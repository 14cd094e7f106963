use Rattle.std.proofs.Common.{length}
use Rattle.comb_switch.proofs.combine.+youngest_for.Given as goal

abbrev pub decreases-youngest_for : goal.decreases-youngest_for
decreases-youngest_for l = length l.requests.now
