-- A row in which the components of a set hold other words, and the seam behind it.
use Rattle.std.specs.Prelude.{◌≡◌, ℕ, ◌+◌, ◌<◌, ◌≤◌, true, false, None, unwrap_or, List, [], length}
use Rattle.std.specs.Option.{option_or}
use Rattle.change_rows.specs.Cells.{Held, found, end_of}
use Rattle.change_rows.specs.Marks.{is_in}
use Rattle.change_rows.specs.Standing.{standing, standing_before}
use Rattle.change_rows.specs.Changes.{row_at, begins_at}

-- a row and the seam behind it, once the components of a set hold their words at row t
pub record IsOver (rows : List (List Held)) (seam : List Held) (at t width : ℕ) (set : List ℕ) (words : ℕ → List ℕ) (row1 seam1 : List Held) : Type 0 where
  pub kept : (c : ℕ) → c < width → is_in set c ≡ true → unwrap_or (found row1 c) (standing_before (begins_at rows seam at c) t) ≡ words c
  pub others : (c : ℕ) → (c < width → is_in set c ≡ true → ⊥) → found row1 c ≡ option_or (found (row_at rows t) c) (found seam c)
  pub end : end_of row1 ≤ width
  pub seam_kept : (c : ℕ) → c < width → is_in set c ≡ true → t + 1 < length rows → found (row_at rows (t + 1)) c ≡ None → unwrap_or (found seam1 c) (words c) ≡ standing (begins_at rows seam at c) t
  pub seam_only : (c : ℕ) → (c < width → is_in set c ≡ true → ⊥) → found seam1 c ≡ None
  pub seam_end : end_of seam1 ≤ width
  pub seam_past : (t + 1 < length rows → ⊥) → seam1 ≡ []

-- a set has just those components of another one below p that hold other words at row t
pub record IsTold (rows : List (List Held)) (seam : List Held) (at t : ℕ) (set : List ℕ) (words : ℕ → List ℕ) (p : ℕ) (changed : List ℕ) : Type 0 where
  pub others : (c : ℕ) → is_in changed c ≡ true → (c < p) × (is_in set c ≡ true) × (standing (begins_at rows seam at c) t ≡ words c → ⊥)
  pub same : (c : ℕ) → c < p → is_in set c ≡ true → is_in changed c ≡ false → standing (begins_at rows seam at c) t ≡ words c
