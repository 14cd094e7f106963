use Rattle.experiments.proofs.Logging.{First}
use Rattle.experiments.proofs.delays.first_logs.Given as goal

abbrev pub invariant-loop-proc : goal.invariant-loop-proc
invariant-loop-proc l = First l.project l.proc l.logs.items
