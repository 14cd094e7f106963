use Rattle.whole_rows.proofs.Switching.{IsLeft}
use Rattle.whole_rows.proofs.moved.switch_bits.Given as goal

abbrev pub invariant-loop-rest : goal.invariant-loop-rest
invariant-loop-rest l = IsLeft l.shape l.stage l.set l.bits l.rest

abbrev pub decreases-loop-rest : goal.decreases-loop-rest
decreases-loop-rest l = l.rest
