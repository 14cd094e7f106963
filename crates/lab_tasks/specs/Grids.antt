-- Tables of cells as text.
use Rattle.std.specs.Prelude.{ℕ, List, [], ◌∷◌, ◌++◌, codes}
use Rattle.std.specs.List.{flat_map}
use Rattle.lab_tasks.specs.Tables.{fields_text}

-- a row: its cells as fields with commas between
abbrev pub row_text : List (List ℕ) → List ℕ
row_text cells = fields_text cells ++ codes "\n"

-- a table: its rows, of which the first one has the names of its columns
abbrev pub grid_text : List (List (List ℕ)) → List ℕ
grid_text rows = flat_map row_text rows

-- the names, and the rows behind them
abbrev pub names_of : List (List (List ℕ)) → List (List ℕ)
names_of [] = []
names_of (names ∷ rows) = names

abbrev pub rows_of : List (List (List ℕ)) → List (List (List ℕ))
rows_of [] = []
rows_of (names ∷ rows) = rows
