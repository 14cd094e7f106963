use Rattle.std.proofs.Common.{◌≡◌}
use Rattle.std.specs.List.{flat_map}
use Rattle.omega_net.specs.Wires.{below}
use Rattle.lab_tasks.specs.LoadPictures.{drawn_at, spot_of}
use Rattle.lab_tasks.specs.LoadPlans.{rate_at}
use Rattle.lab_tasks.proofs.load_picture.spots_of.Given as goal

abbrev pub invariant-loop-place : goal.invariant-loop-place
invariant-loop-place l =
    l.spots.items ≡ flat_map (λ i. spot_of (rate_at l.plan i) (drawn_at l.plan l.points l.shown l.curve i)) (below l.place)
