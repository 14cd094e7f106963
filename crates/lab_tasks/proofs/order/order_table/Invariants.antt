use Rattle.std.proofs.Common.{◌≡◌, ◌++◌, ◌∷◌, [], take, string_bytes}
use Rattle.std.specs.List.{flat_map}
use Rattle.lab_tasks.specs.Orders.{order_row}
use Rattle.lab_tasks.proofs.order.order_table.Given as goal

abbrev pub invariant-loop-row : goal.invariant-loop-row
invariant-loop-row l = string_bytes l.text ≡ string_bytes l.initial.text ++ flat_map (λ row. order_row row ++ 10 ∷ []) (take l.row-index l.rows)
