use Rattle.std.proofs.Common.{◌≡◌}
use Rattle.std.specs.List.{list_any}
use Rattle.omega_net.specs.Wires.{below}
use Rattle.project_book.specs.Project.{combines_at}
use Rattle.lab_tasks.proofs.convert.combines.Given as goal

abbrev pub invariant-loop-stage : goal.invariant-loop-stage
invariant-loop-stage l = l.any ≡ list_any (combines_at l.project) (below l.stage)
