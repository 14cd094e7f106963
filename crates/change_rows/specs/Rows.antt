-- What a contract sees of the cells of a table: by cycle, then component, the words that each holds.
use Rattle.change_rows.specs.Marks.{is_in}
use Rattle.std.specs.Prelude.{◌≡◌, ◌-◌, cond, ◌&&◌, nat_le, nat_lt, ℕ, unwrap_or, List, [], length, map, slice_index_or, ◌<◌}
use Rattle.std.specs.List.{range_with_len}
use Rattle.change_rows.specs.Cells.{Held, found}

-- the rows are those of the cycles from 0 on, and each has `width` cells
pub record Table : Type 0 where
  pub width : ℕ
  pub rows : List (List (List ℕ))

-- the words of a cell; none where there is no such cell
abbrev pub words_at : List (List (List ℕ)) → ℕ → ℕ → List ℕ
words_at rows t c = slice_index_or (slice_index_or rows t []) c []

abbrev pub IsWhole : Table → Type 0
IsWhole table = (t : ℕ) → t < length table.rows → length (slice_index_or table.rows t []) ≡ table.width

-- a row in which some cells hold other words
abbrev pub overlaid : List (List ℕ) → List Held → List (List ℕ)
overlaid row cells = map (λ c. unwrap_or (found cells c) (slice_index_or row c [])) (range_with_len 0 (length row))

-- rows in which the components of a set hold from row `from` on and before row `to` what they hold in the row before
abbrev pub repeated : List (List (List ℕ)) → ℕ → ℕ → ℕ → List ℕ → List (List (List ℕ))
repeated rows width from to set = map (λ t. map (λ c. cond (is_in set c && (nat_le from t && nat_lt t to)) (words_at rows (from - 1) c) (words_at rows t c)) (range_with_len 0 width)) (range_with_len 0 (length rows))

-- a row in which the components of a set hold other words
abbrev pub replaced : List (List ℕ) → List ℕ → (ℕ → List ℕ) → List (List ℕ)
replaced row set words = map (λ c. cond (is_in set c) (words c) (slice_index_or row c [])) (range_with_len 0 (length row))

-- a row in which each component holds its words
abbrev pub filled : ℕ → (ℕ → List ℕ) → List (List ℕ)
filled width words = map words (range_with_len 0 width)
