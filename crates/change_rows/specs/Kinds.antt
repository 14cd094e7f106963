-- What is put at a row, kind by kind of its cells, and what is noted beside the rows from one put to the next.
use Rattle.std.specs.Prelude.{◌≡◌, ℕ, ◌+◌, ◌*◌, ◌<◌, ◌≤◌, Bool, true, false, is_some, unwrap_or, Some, None, List, length, slice_index_or}
use Rattle.change_rows.specs.Cells.{Held, found, end_of}
use Rattle.change_rows.specs.Marks.{is_in}
use Rattle.change_rows.specs.Standing.{standing, standing_before}
use Rattle.change_rows.specs.Changes.{row_at, begins_at, IsChanges}
use Rattle.change_rows.specs.declared.changes.Changes.{Changes}
use Rattle.change_rows.specs.declared.kinds.Kinds.{Kinds}
use Rattle.change_rows.specs.declared.notes.Notes.{Notes}

-- each set has a bit for each of so many components
pub record IsRoomy (width : ℕ) (k : Kinds) : Type 0 where
  pub own : width ≤ 64 * length k.own.items
  pub under : width ≤ 64 * length k.under.items
  pub moved : width ≤ 64 * length k.moved.items
  pub asked : width ≤ 64 * length k.asked.items
  pub laid : width ≤ 64 * length k.laid.items

pub record HasRoom (width : ℕ) (n : Notes) : Type 0 where
  pub apart : width ≤ 64 * length n.apart.items
  pub known : width ≤ 64 * length n.known.items
  pub heads : width ≤ length n.heads.items
  pub other : width ≤ 64 * length n.other.items
  pub kept : width ≤ 64 * length n.kept.items

-- which components begin in row t, and which in its seam
pub record AreBegun (rows : List (List Held)) (seam : List Held) (t width : ℕ) (k : Kinds) : Type 0 where
  pub own : (c : ℕ) → c < width → is_in k.own.items c ≡ is_some (found (row_at rows t) c)
  pub under : (c : ℕ) → c < width → is_in k.under.items c ≡ is_some (found seam c)

-- row `at` is one of the rows, and what begins there is sorted
pub record IsSorted (s : Changes) (k : Kinds) : Type 0 where
  pub changes : IsChanges s.width s.rows.items s.marks.items s.seam s.at
  pub row : s.at < length s.rows.items
  pub begun : AreBegun s.rows.items s.seam s.at s.width k

-- of the components of a set those that may have moved; all others are still
pub record AreMoved (rests : ℕ → Bool) (width : ℕ) (set moved : List ℕ) : Type 0 where
  pub among : (c : ℕ) → c < width → is_in moved c ≡ true → is_in set c ≡ true
  pub still : (c : ℕ) → c < width → is_in set c ≡ true → is_in moved c ≡ false → rests c ≡ true

-- the components that are known to hold other words at row `at` than before it; and those whose first word before it is kept
pub record IsNoted (rows : List (List Held)) (seam : List Held) (at width : ℕ) (n : Notes) : Type 0 where
  pub apart : (c : ℕ) → is_in n.apart.items c ≡ true → (c < width) × (standing (begins_at rows seam at c) at ≡ standing_before (begins_at rows seam at c) at → ⊥)
  pub known : (c : ℕ) → c < width → is_in n.known.items c ≡ true → slice_index_or n.heads.items c 0 ≡ slice_index_or (standing_before (begins_at rows seam at c) at) 0 0

-- a row is laid of the components of a set below p: of those that moved by their words, of the others by what begins there
pub record IsRowLaid (rows : List (List Held)) (seam : List Held) (at : ℕ) (moved laid : List ℕ) (words : ℕ → List ℕ) (p : ℕ) (row : List Held) : Type 0 where
  pub put : (c : ℕ) → c < p → is_in laid c ≡ true → is_in moved c ≡ true → unwrap_or (found row c) (standing_before (begins_at rows seam at c) at) ≡ words c
  pub begun : (c : ℕ) → c < p → is_in laid c ≡ true → is_in moved c ≡ false → found row c ≡ begins_at rows seam at c at
  pub none : (c : ℕ) → (c < p → is_in laid c ≡ true → ⊥) → found row c ≡ None
  pub end : end_of row ≤ p

-- the first words of the components of a set below p are kept, and those of all components outside of it stay
pub record AreHeads (moved : List ℕ) (words : ℕ → List ℕ) (p : ℕ) (heads0 heads : List ℕ) : Type 0 where
  pub put : (c : ℕ) → c < p → is_in moved c ≡ true → slice_index_or heads c 0 ≡ slice_index_or (words c) 0 0
  pub others : (c : ℕ) → is_in moved c ≡ false → slice_index_or heads c 0 ≡ slice_index_or heads0 c 0

-- a seam has of the components of a set below p what stood at row `at`, and nothing else
pub record IsSeamLaid (rows : List (List Held)) (seam : List Held) (at : ℕ) (kept : List ℕ) (p : ℕ) (seam1 : List Held) : Type 0 where
  pub put : (c : ℕ) → c < p → is_in kept c ≡ true → found seam1 c ≡ Some (standing (begins_at rows seam at c) at)
  pub none : (c : ℕ) → (c < p → is_in kept c ≡ true → ⊥) → found seam1 c ≡ None
  pub end : end_of seam1 ≤ p

-- of the components of a set those that go on in the row behind row t
pub record GoOn (rows : List (List Held)) (t width : ℕ) (changed kept : List ℕ) : Type 0 where
  pub among : (c : ℕ) → is_in kept c ≡ true → (c < width) × (is_in changed c ≡ true) × (t + 1 < length rows) × (found (row_at rows (t + 1)) c ≡ None)
  pub all : (c : ℕ) → c < width → is_in changed c ≡ true → t + 1 < length rows → found (row_at rows (t + 1)) c ≡ None → is_in kept c ≡ true

-- rows with what is kept beside them
pub record IsKept (width : ℕ) (rows : List (List Held)) (marks : List (List ℕ)) (seam : List Held) (at : ℕ) (k : Kinds) (n : Notes) : Type 0 where
  pub changes : IsChanges width rows marks seam at
  pub room : IsRoomy width k
  pub notes : HasRoom width n
  pub noted : IsNoted rows seam at width n
