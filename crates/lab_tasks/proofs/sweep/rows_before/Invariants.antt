use Rattle.std.proofs.Common.{◌≡◌, ◌+◌, ◌∷◌, map}
use Rattle.std.specs.List.{flat_map}
use Rattle.omega_net.specs.Wires.{below}
use Rattle.lab_tasks.proofs.sweep.rows_before.Given as goal

abbrev pub invariant-loop-more : goal.invariant-loop-more
invariant-loop-more l =
    map (λ row. row.items) l.rows.items
    ≡ flat_map (λ setting. map (λ row. setting ∷ row.items) l.others) (map (λ i. record { queue = l.swept.queue; depth = l.swept.from + i }) (below l.more))
