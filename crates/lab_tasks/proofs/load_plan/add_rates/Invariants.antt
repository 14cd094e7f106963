use Rattle.std.proofs.Common.{◌≡◌, ◌++◌}
use Rattle.std.specs.List.{flat_map}
use Rattle.omega_net.specs.Wires.{below}
use Rattle.lab_tasks.specs.LoadPlans.{rate_at, seeded_offers}
use Rattle.lab_tasks.proofs.load_plan.add_rates.Given as goal

abbrev pub invariant-loop-place : goal.invariant-loop-place
invariant-loop-place l =
    l.offers.items ≡ l.initial.offers.items ++ flat_map (λ i. seeded_offers l.load l.plan.seeds (rate_at l.plan i)) (below l.place)
