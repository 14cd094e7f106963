use Rattle.std.proofs.Common.{◌≡◌, ◌-◌, ◌++◌}
use Rattle.lab_tasks.specs.Columns.{farthest_of, columns_in, columns_of}
use Rattle.lab_tasks.proofs.columns.farthest_columns.Given as goal

abbrev pub invariant-loop-column : goal.invariant-loop-column
invariant-loop-column l = columns_of (farthest_of l.middle) l.each (columns_in l.fn.window) l.fn.numbers ≡ l.columns.items ++ columns_of (farthest_of l.middle) l.each (columns_in l.fn.window - l.column) l.rest
