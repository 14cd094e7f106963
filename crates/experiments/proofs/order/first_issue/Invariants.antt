use Rattle.std.proofs.Common.{◌≡◌, map, None}
use Rattle.std.specs.Arc.{arc_value}
use Rattle.machine_cells.specs.Runs.{state_in}
use Rattle.experiments.specs.Orders.{first_issue}
use Rattle.experiments.proofs.order.first_issue.Given as goal

abbrev pub invariant-loop-cycle : goal.invariant-loop-cycle
invariant-loop-cycle l = first_issue l.project (λ t. state_in (map (λ row. map arc_value row.items) l.rows) t l.tag.proc) l.tag.issue l.cycle ≡ None
