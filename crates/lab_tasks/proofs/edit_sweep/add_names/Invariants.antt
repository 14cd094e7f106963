use Rattle.std.proofs.Common.{◌≡◌, ◌++◌, map, take, string_bytes}
use Rattle.lab_tasks.proofs.edit_sweep.add_names.Given as goal

abbrev pub invariant-loop-name : goal.invariant-loop-name
invariant-loop-name l = l.cells.items ≡ l.initial.cells.items ++ map string_bytes (take l.name-index l.names)
