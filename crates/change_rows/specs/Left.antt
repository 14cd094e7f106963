-- Rows, and the cells that they are left.
use Rattle.std.specs.Prelude.{ℕ, cond, nat_eq, Option, Some, None, List, [], ◌∷◌}
use Rattle.change_rows.specs.declared.run.Left.{Left}
use Rattle.change_rows.specs.Cells.{Held}

-- the cells that a list leaves a row; none where it isn't among them
abbrev pub left_in : List Left → ℕ → Option (List Held)
left_in [] u = None
left_in (left ∷ rest) u = cond (nat_eq left.row u) (Some left.cells) (left_in rest u)
