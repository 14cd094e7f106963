use Rattle.std.proofs.Common.{◌≡◌}
use Rattle.std.specs.List.{flat_map}
use Rattle.omega_net.specs.Wires.{below}
use Rattle.lab_tasks.specs.MapPictures.{tick_at}
use Rattle.lab_tasks.proofs.map.ticks_of.Given as goal

abbrev pub invariant-loop-place : goal.invariant-loop-place
invariant-loop-place l = l.ticks.items ≡ flat_map (tick_at l.window l.step) (below l.place)
