use Rattle.std.proofs.Common.{◌≡◌, map}
use Rattle.omega_net.specs.Wires.{below}
use Rattle.saturation.specs.Towards.{line_towards}
use Rattle.lab_tasks.specs.MapRows.{output_row}
use Rattle.lab_tasks.proofs.map_rows.request_rows.Given as goal

abbrev pub invariant-loop-place : goal.invariant-loop-place
invariant-loop-place l = l.rows.items ≡ map (λ place. output_row l.shape l.net l.stage (line_towards l.shape l.«module» l.stage place)) (below l.place)
