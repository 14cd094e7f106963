use Rattle.wave_workers.specs.Working.{IsKept}
use Rattle.wave_workers.proofs.worker.compute_lots.Given as goal

abbrev pub invariant-lots : goal.invariant-lots
invariant-lots g l = IsKept l.fn.pass l.pass
