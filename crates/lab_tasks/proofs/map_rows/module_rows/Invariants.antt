use Rattle.std.proofs.Common.{◌≡◌, map}
use Rattle.omega_net.specs.Wires.{below}
use Rattle.lab_tasks.specs.MapRows.{module_row}
use Rattle.lab_tasks.proofs.map_rows.module_rows.Given as goal

abbrev pub invariant-loop-module : goal.invariant-loop-module
invariant-loop-module l = l.rows.items ≡ map (module_row l.shape l.net l.way) (below l.«module»)
