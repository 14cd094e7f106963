use Rattle.wave_workers.proofs.Working.{kept_trans}
use Rattle.wave_workers.proofs.lot.work_one.Goals as goal

pub returns : goal.returns
returns g c = kept_trans _ _ _ (c.claim.ensures.later, c.claim.ensures.own.0, c.claim.ensures.own.1) (c.give.ensures.later, c.give.ensures.own.0, c.give.ensures.own.1)
