use Rattle.run_reports.proofs.Logging.{First}
use Rattle.run_reports.proofs.reference.first_logs.Given as goal

abbrev pub invariant-loop-proc : goal.invariant-loop-proc
invariant-loop-proc l = First l.project l.proc l.logs.items
