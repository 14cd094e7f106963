use Rattle.std.proofs.Common.{◌≡◌, map}
use Rattle.omega_net.specs.Wires.{below}
use Rattle.lab_tasks.specs.RatePictures.{bound_spot}
use Rattle.lab_tasks.proofs.rate_picture.bounds_of.Given as goal

abbrev pub invariant-loop-power : goal.invariant-loop-power
invariant-loop-power l = l.spots.items ≡ map (bound_spot l.hot) (below l.power)
