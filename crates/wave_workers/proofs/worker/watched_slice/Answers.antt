use Rattle.wave_workers.proofs.Working.{kept_trans, looked}
use Rattle.wave_workers.proofs.worker.watched_slice.Goals as goal

pub returns-clause-kept : goal.returns-clause-kept
returns-clause-kept g c = kept_trans _ _ _ (c.length-length.ensures.later, c.length-length.ensures.own.0, c.length-length.ensures.own.1) c.slice-came.ensures.kept

pub returns-clause-looked : goal.returns-clause-looked
returns-clause-looked g c =
    let left = c.slice-came.ensures.left in
    looked _ _ _ _ left.0 c.length-length.ensures.answer c.slice-came.ensures.kept.0 left.1 left.2
