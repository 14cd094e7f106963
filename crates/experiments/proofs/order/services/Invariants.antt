use Rattle.std.proofs.Common.{◌≡◌, map}
use Rattle.std.specs.Arc.{arc_value}
use Rattle.std.specs.List.{flat_map}
use Rattle.omega_net.specs.Wires.{below}
use Rattle.machine_cells.specs.Runs.{state_in}
use Rattle.experiments.specs.Orders.{step_services}
use Rattle.experiments.proofs.order.services.Given as goal

abbrev pub invariant-loop-cycle : goal.invariant-loop-cycle
invariant-loop-cycle l = l.services.items ≡ flat_map (step_services l.project (state_in (map (λ row. map arc_value row.items) l.rows))) (below l.cycle)
