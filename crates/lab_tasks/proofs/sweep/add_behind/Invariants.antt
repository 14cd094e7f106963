use Rattle.std.proofs.Common.{◌≡◌, ◌++◌, ◌∷◌, map, take}
use Rattle.lab_tasks.proofs.sweep.add_behind.Given as goal

abbrev pub invariant-loop-other : goal.invariant-loop-other
invariant-loop-other l = map (λ row. row.items) l.rows.items ≡ map (λ row. row.items) l.initial.rows.items ++ map (λ row. l.setting ∷ row.items) (take l.other-index l.others)
