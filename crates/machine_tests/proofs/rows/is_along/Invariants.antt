use Rattle.flat_row.specs.Row.{IsRowOf}
use Rattle.machine_tests.proofs.rows.is_along.Given as goal

abbrev pub invariant-loop-states : goal.invariant-loop-states
invariant-loop-states l = IsRowOf l.project l.row
