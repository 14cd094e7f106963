use Rattle.std.proofs.Common.{◌≡◌, map}
use Rattle.omega_net.specs.Wires.{below}
use Rattle.lab_tasks.specs.DelayPictures.{delay_curve}
use Rattle.lab_tasks.proofs.delay_picture.delay_curves.Given as goal

abbrev pub invariant-loop-network : goal.invariant-loop-network
invariant-loop-network l = l.curves.items ≡ map (delay_curve l.plan l.points) (below l.network)
