use Rattle.std.proofs.Common.{◌≡◌, take}
use Rattle.std.specs.List.{flat_map}
use Rattle.lab_tasks.specs.LoadPlans.{share_offers}
use Rattle.lab_tasks.proofs.load_plan.offers_of.Given as goal

abbrev pub invariant-loop-hot : goal.invariant-loop-hot
invariant-loop-hot l = l.offers.items ≡ flat_map (share_offers l.plan) (take l.hot-index l.plan.hot.items)
