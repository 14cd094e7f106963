use Rattle.std.proofs.Common.{◌≡◌, ◌++◌, true, false}
use Rattle.std.specs.List.{flat_map}
use Rattle.omega_net.specs.Wires.{below}
use Rattle.lab_tasks.specs.Points.{seeded_loads}
use Rattle.lab_tasks.proofs.points.rate_loads.Given as goal

abbrev pub invariant-loop-k : goal.invariant-loop-k
invariant-loop-k l = l.loads.items ≡ flat_map (λ k. seeded_loads l.plan k false ++ seeded_loads l.plan k true) (below l.k)
