use Rattle.std.proofs.Common.{◌≡◌, map}
use Rattle.std.specs.Arc.{arc_value}
use Rattle.omega_net.specs.Wires.{below}
use Rattle.machine_cells.specs.GridRules.{first_state}
use Rattle.machine_cells.proofs.scratch.first_row.Given as goal

abbrev pub invariant-loop-c : goal.invariant-loop-c
invariant-loop-c l = map arc_value l.row.items ≡ map (first_state l.project) (below l.c)
