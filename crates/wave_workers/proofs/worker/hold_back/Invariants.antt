use Rattle.wave_workers.specs.Working.{IsKept}
use Rattle.wave_workers.proofs.worker.hold_back.Given as goal

abbrev pub invariant-loop : goal.invariant-loop
invariant-loop g l = IsKept l.fn.pass l.pass
