use Rattle.std.proofs.Common.{◌≡◌, ◌≤◌, ◌*◌, sum_by}
use Rattle.omega_net.specs.Wires.{below}
use Rattle.project_book.specs.Project.{entry_at}
use Rattle.lab_tasks.specs.Counts.{any, times_in}
use Rattle.lab_tasks.proofs.hot.times_of.Given as goal

abbrev pub invariant-loop-index : goal.invariant-loop-index
invariant-loop-index l = (l.times ≡ sum_by (λ i. times_in any (entry_at l.project l.proc i)) (below l.index)) × (l.times ≤ 1000 * l.index)
