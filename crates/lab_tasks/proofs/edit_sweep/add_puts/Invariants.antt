use Rattle.std.proofs.Common.{◌≡◌, ◌++◌, map, take}
use Rattle.edit_templates.specs.Braces.{put_text}
use Rattle.lab_tasks.proofs.edit_sweep.add_puts.Given as goal

abbrev pub invariant-loop-put : goal.invariant-loop-put
invariant-loop-put l = l.cells.items ≡ l.initial.cells.items ++ map put_text (take l.put-index l.puts)
