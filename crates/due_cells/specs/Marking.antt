-- Cells that become due with one version.
use Rattle.std.specs.Prelude.{◌≡◌, ◌⊎◌, ℕ, ◌≤◌, ◌||◌, if◌then◌else◌, Bool, true, List, [], length, slice_index_or}
use Rattle.cell_marks.specs.Marked.{Marked, has as has_mark}
use Rattle.cell_states.specs.Versions.{VersionRow, lists, room_at, version_at}
use Rattle.due_cells.specs.Layout.{IsLayout}

-- a cell of the cycle can become due with that version, and no memory is taken: there is room for a version of each, or all that are due
-- have that one
abbrev pub IsReady : ℕ → Marked → List VersionRow → ℕ → Type 0
IsReady v due versions t =
    (length (slice_index_or (lists versions) t []) ≤ room_at versions t) ⊎ ((c : ℕ) → has_mark due.rows t c ≡ true → version_at (lists versions) t c ≡ v)

-- just these cells become due, with that version
pub record AreMarked (v : ℕ) (was : Marked) (olds : List VersionRow) (now : Marked) (news : List VersionRow) (marks : ℕ → ℕ → Bool) : Type 0 where
  pub layout : IsLayout now (lists news)
  pub width : now.width ≡ was.width
  pub cycles : length now.rows ≡ length was.rows
  pub due : (t c : ℕ) → has_mark now.rows t c ≡ (has_mark was.rows t c || marks t c)
  pub version : (t c : ℕ) → has_mark now.rows t c ≡ true → version_at (lists news) t c ≡ (if marks t c then v else version_at (lists olds) t c)
  pub rooms : (t : ℕ) → room_at news t ≡ room_at olds t
