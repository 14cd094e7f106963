use Rattle.std.proofs.Common.{◌≡◌, ◌≤◌, min, sum_by}
use Rattle.omega_net.specs.Wires.{below}
use Rattle.project_book.specs.Project.{length_at}
use Rattle.lab_tasks.proofs.check.scripts_of.Given as goal

abbrev pub invariant-loop-proc : goal.invariant-loop-proc
invariant-loop-proc l = (l.scripts ≡ sum_by (λ p. min (length_at l.project p) 1) (below l.proc)) × (l.scripts ≤ l.proc)
