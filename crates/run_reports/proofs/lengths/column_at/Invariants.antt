use Rattle.std.proofs.Common.{◌≡◌, take}
use Rattle.run_reports.specs.Lengths.{column_at}
use Rattle.run_reports.proofs.lengths.column_at.Given as goal

abbrev pub invariant-loop-row : goal.invariant-loop-row
invariant-loop-row l = l.numbers.items ≡ column_at (take l.row-index l.rows) l.place
