use Rattle.wave_workers.proofs.Working.{kept_trans}
use Rattle.wave_workers.proofs.lot.work_lot.Goals as goal

pub returns : goal.returns
returns g c = kept_trans _ _ _ (c.claim_many.ensures.later, c.claim_many.ensures.own.0, c.claim_many.ensures.own.1) (c.give_many.ensures.later, c.give_many.ensures.own.0, c.give_many.ensures.own.1)
