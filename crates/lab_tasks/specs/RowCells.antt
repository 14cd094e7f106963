-- The rows of a map with their cells, where these stand in one list.
use Rattle.std.specs.Prelude.{ℕ, List, [], ◌∷◌, length, min, take, drop}
use Rattle.svg_plots.specs.declared.map.CellGroup.{CellGroup}
use Rattle.svg_plots.specs.declared.map.CellRow.{CellRow}
use Rattle.lab_tasks.specs.declared.map_rows.MapRow.{MapRow}
use Rattle.lab_tasks.specs.declared.map_rows.RowGroup.{RowGroup}
use Rattle.lab_tasks.specs.MapRows.{group_label, row_label}

-- each row with the cells at its place, as far as there are any
unfoldable pub rows_with : List MapRow → List (List ℕ) → List CellRow
rows_with [] cells = []
rows_with (r ∷ rs) [] = []
rows_with (r ∷ rs) (c ∷ cs) = record { label = row_label r; cells = c } ∷ rows_with rs cs

-- the groups in turn
unfoldable pub groups_with : List RowGroup → List (List ℕ) → List CellGroup
groups_with [] cells = []
groups_with (g ∷ gs) cells = record { label = group_label g.stage; rows = rows_with g.rows cells } ∷ groups_with gs (drop (min (length cells) (length g.rows)) cells)
