use Rattle.std.proofs.Common.{◌≡◌, ◌-◌, ◌++◌}
use Rattle.lab_tasks.specs.Columns.{any_of, columns_in, columns_of}
use Rattle.lab_tasks.proofs.columns.any_columns.Given as goal

abbrev pub invariant-loop-column : goal.invariant-loop-column
invariant-loop-column l = columns_of any_of l.each (columns_in l.fn.window) l.fn.flags ≡ l.columns.items ++ columns_of any_of l.each (columns_in l.fn.window - l.column) l.rest
