use Rattle.flat_row.specs.Row.{IsRowOf}
use Rattle.machine_tests.proofs.row_words.are_told.Given as goal

abbrev pub invariant-loop-c : goal.invariant-loop-c
invariant-loop-c l = IsRowOf l.project l.row
