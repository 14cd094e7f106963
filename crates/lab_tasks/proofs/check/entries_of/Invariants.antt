use Rattle.std.proofs.Common.{◌≡◌, ◌≤◌, ◌*◌, sum_by}
use Rattle.omega_net.specs.Wires.{below}
use Rattle.project_book.specs.Limits.{script_entries}
use Rattle.project_book.specs.Project.{length_at}
use Rattle.lab_tasks.proofs.check.entries_of.Given as goal

abbrev pub invariant-loop-proc : goal.invariant-loop-proc
invariant-loop-proc l = (l.entries ≡ sum_by (length_at l.project) (below l.proc)) × (l.entries ≤ script_entries * l.proc)
