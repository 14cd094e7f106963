use Rattle.std.proofs.Common.{refl}
use Rattle.omega_net.proofs.Numbering.{number_leads_back}
use Rattle.omega_net.proofs.shape.Shape.number.Goals as goal

pub returns-then-has-clause-back : goal.returns-then-has-clause-back
returns-then-has-clause-back c = rw c.number_of.ensures (number_leads_back _ _ (c.if-has.ensures.0 refl))
