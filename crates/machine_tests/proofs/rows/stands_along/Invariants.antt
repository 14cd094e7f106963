use Rattle.flat_row.specs.Row.{IsRowOf}
use Rattle.machine_tests.proofs.rows.stands_along.Given as goal

abbrev pub invariant-loop-cycle : goal.invariant-loop-cycle
invariant-loop-cycle l = record { before : IsRowOf l.project l.before; row : IsRowOf l.project l.row }
