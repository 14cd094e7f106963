use Rattle.flat_row.specs.Row.{IsRowOf}
use Rattle.benchmarks.proofs.loads.run_once.Given as goal

-- the row stays one of the project
abbrev pub invariant-loop : goal.invariant-loop
invariant-loop l = IsRowOf l.project l.row
