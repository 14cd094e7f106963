-- A draft of cells that is put at a row, and the cells that are laid for it.
use Rattle.std.specs.Prelude.{◌≡◌, ℕ, ◌+◌, ◌<◌, ◌≤◌, Option, Some, None, unwrap_or, List, [], length}
use Rattle.change_rows.specs.declared.changes.Changes.{Changes}
use Rattle.change_rows.specs.Cells.{Held, found, end_of}
use Rattle.change_rows.specs.Standing.{standing, standing_before}
use Rattle.change_rows.specs.Changes.{row_at, begins_at, IsChanges}

-- row t is one of the rows, and no other row has a seam
pub record IsSettledFor (s : Changes) (t : ℕ) : Type 0 where
  pub changes : IsChanges s.width s.rows.items s.marks.items s.seam s.at
  pub row : t < length s.rows.items
  pub elsewhere : (s.at ≡ t → ⊥) → s.seam ≡ []

-- a cell more behind all others, unless its component holds its words anyway
pub record IsPushed (c : ℕ) (words held : List ℕ) (cells cells1 : List Held) : Type 0 where
  pub kept : unwrap_or (found cells1 c) held ≡ words
  pub others : (d : ℕ) → (d ≡ c → ⊥) → found cells1 d ≡ found cells d
  pub end : end_of cells1 ≤ c + 1

-- a cell of a draft is laid in the row, and what stood there in the seam behind it, where the next row has none of its component
pub record IsCellLaid (s : Changes) (t c : ℕ) (words : List ℕ) (row row1 seam seam1 : List Held) : Type 0 where
  pub pushed : IsPushed c words (standing_before (begins_at s.rows.items s.seam s.at c) t) row row1
  pub seam_kept : t + 1 < length s.rows.items → found (row_at s.rows.items (t + 1)) c ≡ None → unwrap_or (found seam1 c) words ≡ standing (begins_at s.rows.items s.seam s.at c) t
  pub seam_others : (d : ℕ) → (d ≡ c → ⊥) → found seam1 d ≡ found seam d
  pub seam_end : end_of seam1 ≤ c + 1
  pub seam_past : (t + 1 < length s.rows.items → ⊥) → seam1 ≡ seam

-- a draft is laid over what begins at row t: the row with its cells, and the seam behind it
pub record IsDraftLaid (s : Changes) (t : ℕ) (draft : List Held) (under : ℕ → Option (List ℕ)) (row1 seam1 : List Held) : Type 0 where
  pub kept : (c : ℕ) (w : List ℕ) → found draft c ≡ Some w → unwrap_or (found row1 c) (standing_before (begins_at s.rows.items s.seam s.at c) t) ≡ w
  pub others : (c : ℕ) → found draft c ≡ None → found row1 c ≡ under c
  pub end : end_of row1 ≤ s.width
  pub seam_kept : t + 1 < length s.rows.items → (c : ℕ) (w : List ℕ) → found draft c ≡ Some w → found (row_at s.rows.items (t + 1)) c ≡ None → unwrap_or (found seam1 c) w ≡ standing (begins_at s.rows.items s.seam s.at c) t
  pub seam_only : (c : ℕ) → found draft c ≡ None → found seam1 c ≡ None
  pub seam_end : end_of seam1 ≤ s.width
  pub seam_past : (t + 1 < length s.rows.items → ⊥) → seam1 ≡ []
