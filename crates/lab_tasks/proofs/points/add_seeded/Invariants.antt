use Rattle.std.proofs.Common.{◌≡◌, ◌++◌, true, take}
use Rattle.std.specs.List.{flat_map}
use Rattle.lab_tasks.specs.Points.{seeded}
use Rattle.lab_tasks.proofs.points.add_seeded.Given as goal

abbrev pub invariant-loop-hot : goal.invariant-loop-hot
invariant-loop-hot l =
    l.loads.items
    ≡ l.initial.loads.items
    ++ flat_map (λ h. seeded (record { k = l.k; hot = h; seed = l.plan.seed; cycles = l.plan.cycles; sync = true; combine = l.combine }) l.plan.seeds) (take l.hot-index l.plan.hot.items)
