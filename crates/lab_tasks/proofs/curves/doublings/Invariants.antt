use Rattle.std.proofs.Common.{◌≡◌, map}
use Rattle.omega_net.specs.Wires.{below}
use Rattle.lab_tasks.specs.CurvePictures.{doubling_at}
use Rattle.lab_tasks.proofs.curves.doublings.Given as goal

abbrev pub invariant-loop-power : goal.invariant-loop-power
invariant-loop-power l = l.ticks.items ≡ map doubling_at (below l.power)
