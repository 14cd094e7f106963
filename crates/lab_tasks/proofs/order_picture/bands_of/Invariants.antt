use Rattle.std.proofs.Common.{◌≡◌, map}
use Rattle.omega_net.specs.Wires.{below}
use Rattle.lab_tasks.specs.OrderPictures.{band_of}
use Rattle.lab_tasks.proofs.order_picture.bands_of.Given as goal

abbrev pub invariant-loop-proc : goal.invariant-loop-proc
invariant-loop-proc l = l.bands.items ≡ map (band_of l.counts) (below l.proc)
