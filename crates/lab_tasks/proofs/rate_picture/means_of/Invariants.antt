use Rattle.std.proofs.Common.{◌≡◌, map}
use Rattle.omega_net.specs.Wires.{below}
use Rattle.lab_tasks.specs.RatePictures.{rate_spot}
use Rattle.lab_tasks.proofs.rate_picture.means_of.Given as goal

abbrev pub invariant-loop-k : goal.invariant-loop-k
invariant-loop-k l = l.spots.items ≡ map (rate_spot l.plan l.points l.place l.combine) (below l.k)
