use Rattle.std.proofs.Common.{◌≡◌, ◌++◌, map, take}
use Rattle.lab_tasks.proofs.points.add_shares.Given as goal

abbrev pub invariant-loop-hot : goal.invariant-loop-hot
invariant-loop-hot l =
    l.loads.items ≡ l.initial.loads.items ++ map (λ h. record { k = l.k; hot = h; seed = l.plan.seed; cycles = l.plan.cycles; sync = l.sync; combine = l.combine }) (take l.hot-index l.plan.hot.items)
