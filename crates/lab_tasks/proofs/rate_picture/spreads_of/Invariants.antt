use Rattle.std.proofs.Common.{◌≡◌}
use Rattle.std.specs.List.{flat_map}
use Rattle.omega_net.specs.Wires.{below}
use Rattle.lab_tasks.specs.RatePictures.{runs_at, spread_at}
use Rattle.lab_tasks.proofs.rate_picture.spreads_of.Given as goal

abbrev pub invariant-loop-k : goal.invariant-loop-k
invariant-loop-k l = l.whiskers.items ≡ flat_map (λ k. spread_at l.plan.of k (runs_at l.plan l.points l.place l.combine k)) (below l.k)
