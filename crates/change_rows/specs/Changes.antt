-- Rows of changes, and the seam that is held beside them.
use Rattle.std.specs.Prelude.{◌≡◌, ℕ, ◌*◌, ◌<◌, ◌≤◌, ◌^◌, cond, nat_eq, is_some, Option, None, List, [], length, map, slice_index_or}
use Rattle.std.specs.Option.{option_or}
use Rattle.std.specs.List.{range_with_len}
use Rattle.change_rows.specs.Cells.{Held, found, end_of}
use Rattle.change_rows.specs.Marks.{is_marked}
use Rattle.change_rows.specs.Standing.{standing}

-- the cells that begin in a row
abbrev pub row_at : List (List Held) → ℕ → List Held
row_at rows t = slice_index_or rows t []

-- the words that begin at a cell: those of the row, else those of the seam, which belongs to one row
abbrev pub begins_at : List (List Held) → List Held → ℕ → ℕ → ℕ → Option (List ℕ)
begins_at rows seam at c t = option_or (found (row_at rows t) c) (cond (nat_eq t at) (found seam c) None)

-- the words of all cells of n rows
abbrev pub table : (ℕ → ℕ → List ℕ) → ℕ → ℕ → List (List (List ℕ))
table words n width = map (λ t. map (words t) (range_with_len 0 width)) (range_with_len 0 n)

abbrev pub cells_in : List (List Held) → List Held → ℕ → ℕ → List (List (List ℕ))
cells_in rows seam at width = table (λ t c. standing (begins_at rows seam at c) t) (length rows) width

pub record IsChanges (width : ℕ) (rows : List (List Held)) (marks : List (List ℕ)) (seam : List Held) (at : ℕ) : Type 0 where
  pub wide : (t : ℕ) → end_of (row_at rows t) ≤ width
  pub seam_wide : end_of seam ≤ width
  pub seam_there : (at < length rows → ⊥) → seam ≡ []
  pub room : width ≤ 64 * length marks
  pub tall : (w : ℕ) → w < length marks → length rows ≤ length (slice_index_or marks w [])
  pub marked : (t c : ℕ) → c < width → is_marked marks t c ≡ is_some (found (row_at rows t) c)
  pub short : length rows < 2 ^ 32
