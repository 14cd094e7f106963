use Rattle.std.proofs.Common.{◌≡◌, ◌++◌, ◌∷◌, [], take, string_bytes}
use Rattle.std.specs.List.{flat_map}
use Rattle.lab_tasks.specs.LoadTables.{load_row}
use Rattle.lab_tasks.proofs.load_table.load_table.Given as goal

abbrev pub invariant-loop-point : goal.invariant-loop-point
invariant-loop-point l =
    string_bytes l.text ≡ string_bytes l.initial.text ++ flat_map (λ point. load_row point ++ 10 ∷ []) (take l.point-index l.points)
