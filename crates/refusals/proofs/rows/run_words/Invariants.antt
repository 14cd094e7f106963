use Rattle.flat_row.specs.Row.{IsRowOf}
use Rattle.refusals.proofs.rows.run_words.Given as goal

abbrev pub invariant-loop : goal.invariant-loop
invariant-loop l = IsRowOf l.project l.row
