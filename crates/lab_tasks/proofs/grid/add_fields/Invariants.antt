use Rattle.std.proofs.Common.{◌≡◌, ◌++◌, take, string_bytes}
use Rattle.lab_tasks.specs.Tables.{fields_text}
use Rattle.lab_tasks.proofs.grid.add_fields.Given as goal

abbrev pub invariant-loop-place : goal.invariant-loop-place
invariant-loop-place l = string_bytes l.text ≡ string_bytes l.initial.text ++ fields_text (take l.place l.cells)
