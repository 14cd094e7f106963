use Rattle.flat_row.specs.Row.{IsRowOf}
use Rattle.machine_tests.proofs.whole.steps_along.Given as goal

abbrev pub invariant-loop-t : goal.invariant-loop-t
invariant-loop-t l = IsRowOf l.project l.row
