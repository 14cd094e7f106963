-- Rows before and after an edit.
use Rattle.std.specs.Prelude.{◌≡◌, ℕ, ◌+◌, ◌<◌, ◌≤◌, [], length}
use Rattle.change_rows.specs.declared.changes.Changes.{Changes}
use Rattle.change_rows.specs.Standing.{standing}
use Rattle.change_rows.specs.Changes.{begins_at, IsChanges}

-- rows once they are edited, as many and as wide as they were
pub record IsEdited (old new : Changes) : Type 0 where
  pub changes : IsChanges new.width new.rows.items new.marks.items new.seam new.at
  pub width : new.width ≡ old.width
  pub len : length new.rows.items ≡ length old.rows.items

-- m rows more, whose cells hold no words; all others hold what they held
pub record IsGrown (m : ℕ) (old new : Changes) : Type 0 where
  pub len : length new.rows.items ≡ length old.rows.items + m
  pub same : (c u : ℕ) → u < length old.rows.items → begins_at new.rows.items new.seam new.at c u ≡ begins_at old.rows.items old.seam old.at c u
  pub blank : (c u : ℕ) → c < old.width → length old.rows.items ≤ u → standing (begins_at new.rows.items new.seam new.at c) u ≡ []

-- row t is one of the rows, and none of its cells holds words
pub record IsBlankRow (s : Changes) (t : ℕ) : Type 0 where
  pub changes : IsChanges s.width s.rows.items s.marks.items s.seam s.at
  pub row : t < length s.rows.items
  pub none : (c : ℕ) → c < s.width → standing (begins_at s.rows.items s.seam s.at c) t ≡ []
