use Rattle.std.proofs.Common.{◌≡◌, ◌+◌, ◌++◌, map, drop}
use Rattle.std.specs.Arc.{arc_value}
use Rattle.machine_cells.specs.Runs.{state_in}
use Rattle.experiments.specs.Orders.{rows_from}
use Rattle.experiments.proofs.order.order_rows.Given as goal

abbrev pub invariant-loop-place : goal.invariant-loop-place
invariant-loop-place l =
    let at = state_in (map (λ row. map arc_value row.items) l.rows.items) in
    l.listed.items ++ rows_from l.project at (l.place + 1) (drop l.place l.service-items) ≡ rows_from l.project at 1 l.service-items
