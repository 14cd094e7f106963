use Rattle.std.proofs.Common.{◌∙◌, sym}
use Rattle.wave_workers.proofs.Working.{idle_slice}
use Rattle.wave_workers.proofs.worker.slice.Goals as goal

pub returns-clause-left : goal.returns-clause-left
returns-clause-left g c =
    let turn = c.settle_some.ensures.in_turn in
    (turn.1, (_, turn.0, turn.5, turn.3), λ e. idle_slice turn.0 turn.1 _ c.settle_some.result turn.4 (sym c.of_slice.ensures ∙ e))
