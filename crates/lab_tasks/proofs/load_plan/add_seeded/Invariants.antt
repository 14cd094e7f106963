use Rattle.std.proofs.Common.{◌≡◌, ◌++◌}
use Rattle.lab_tasks.specs.LoadPlans.{seeded_offers}
use Rattle.lab_tasks.proofs.load_plan.add_seeded.Given as goal

abbrev pub invariant-loop-nth : goal.invariant-loop-nth
invariant-loop-nth l = l.offers.items ≡ l.initial.offers.items ++ seeded_offers l.load l.nth l.rate
