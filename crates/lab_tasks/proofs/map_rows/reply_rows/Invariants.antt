use Rattle.std.proofs.Common.{◌≡◌, ◌/◌}
use Rattle.std.specs.List.{flat_map}
use Rattle.omega_net.specs.Wires.{below}
use Rattle.saturation.specs.Towards.{line_towards}
use Rattle.lab_tasks.specs.MapRows.{input_rows}
use Rattle.lab_tasks.proofs.map_rows.reply_rows.Given as goal

abbrev pub invariant-loop-place : goal.invariant-loop-place
invariant-loop-place l = l.rows.items ≡ flat_map (λ place. input_rows l.shape l.net l.stage (line_towards l.shape l.«module» l.stage place / 2)) (below l.place)
