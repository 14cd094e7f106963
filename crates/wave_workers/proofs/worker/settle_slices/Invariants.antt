use Rattle.wave_workers.specs.Working.{IsKept}
use Rattle.wave_workers.proofs.worker.settle_slices.Given as goal

abbrev pub invariant-turns : goal.invariant-turns
invariant-turns g l = IsKept l.fn.pass l.pass
