use Rattle.std.proofs.Common.{◌≡◌, ◌++◌, map}
use Rattle.omega_net.specs.Wires.{below}
use Rattle.lab_tasks.specs.LoadPictures.{first_curves, load_curve}
use Rattle.lab_tasks.proofs.load_picture.load_curves.Given as goal

abbrev pub invariant-loop-curve : goal.invariant-loop-curve
invariant-loop-curve l = l.curves.items ≡ first_curves l.shown ++ map (load_curve l.plan l.points l.shown) (below l.curve)
