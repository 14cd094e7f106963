use Rattle.std.proofs.Common.{◌≡◌, ◌+◌, ◌++◌, map}
use Rattle.omega_net.specs.Wires.{below}
use Rattle.lab_tasks.proofs.points.add_seeds.Given as goal

abbrev pub invariant-loop-nth : goal.invariant-loop-nth
invariant-loop-nth l = l.loads.items ≡ l.initial.loads.items ++ map (λ i. record l.load { seed = l.load.seed + i }) (below l.nth)
