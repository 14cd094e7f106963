-- How a table keeps its cells: the state of each, and by cycle marks of the due cells and versions.
use Rattle.std.specs.Prelude.{◌≡◌, ℕ, ◌-◌, ◌<◌, ◌≤◌, ◌==◌, ◌&&◌, ◌^◌, if◌then◌else◌, Bool, Option, None, false, List, [], map, length, slice_index_or}
use Rattle.std.specs.List.{range_with_len}
use Rattle.cell_marks.specs.Marked.{Marked, has as has_mark}
use Rattle.cell_states.specs.Filling.{is_awake}
use Rattle.cell_states.specs.Stated.{Stated}
use Rattle.cell_states.specs.Versions.{version_at}
use Rattle.due_cells.specs.Seen.{Held, row_at, held_at}

-- marks and versions are those of the same cells
pub record IsLayout (due : Marked) (versions : List (List ℕ)) : Type 0 where
  pub marks : (t : ℕ) → t < length due.rows → length (slice_index_or due.rows t []) ≡ due.width
  pub rows : length versions ≡ length due.rows
  pub numbers : (t : ℕ) → t < length due.rows → length (slice_index_or versions t []) ≡ due.width
  pub few : due.width < 2 ^ 32
  pub short : length due.rows < 2 ^ 32

module _ {State : Type 0} where
  -- what a state, a mark and a version are together: the version counts only where the cell is due
  abbrev pub kept : Option State → Bool → ℕ → Held State
  kept state is_due version = record { state = state; is_due = is_due; version = (if is_due then version else 0) }

  -- what is held for a cell once it isn't due
  abbrev pub cleared : Option State → Held State
  cleared state = record { state = state; is_due = false; version = 0 }

  -- what is held for a cell, where `states` has the state of each
  abbrev pub kept_at : (ℕ → ℕ → Option State) → Marked → List (List ℕ) → ℕ → ℕ → Held State
  kept_at states due versions t c = kept (states t c) (has_mark due.rows t c) (version_at versions t c)

  -- and for all, row by row
  abbrev pub rows_of : (ℕ → ℕ → Option State) → Marked → List (List ℕ) → List (List (Held State))
  rows_of states due versions = map (λ t. map (kept_at states due versions t) (range_with_len 0 due.width)) (range_with_len 0 (length due.rows))

  -- there is no state of a cell that isn't there
  pub record IsBounded (states : ℕ → ℕ → Option State) (width n : ℕ) : Type 0 where
    pub cycles : (t c : ℕ) → n ≤ t → states t c ≡ None
    pub components : (t c : ℕ) → width ≤ c → states t c ≡ None

  -- another thing is held for one cell
  pub record IsOtherCell (olds news : List (List (Held State))) (t c : ℕ) (held : Held State) : Type 0 where
    pub len : length news ≡ length olds
    pub lens : (t1 : ℕ) → length (row_at news t1) ≡ length (row_at olds t1)
    pub at : (t1 c1 : ℕ) → held_at news t1 c1 ≡ (if (t1 == t) && (c1 == c) then held else held_at olds t1 c1)

  -- other things are held for cells of one cycle
  pub record IsOtherCycle (olds news : List (List (Held State))) (t : ℕ) : Type 0 where
    pub len : length news ≡ length olds
    pub lens : (u : ℕ) → length (row_at news u) ≡ length (row_at olds u)
    pub others : (u c : ℕ) → (u ≡ t → ⊥) → held_at news u c ≡ held_at olds u c

  -- the components that are marked keep from one cycle on to before another the state of the cycle before, and no cell there is due; all
  -- other cells hold what they held
  pub record AreCellsRepeated (olds news : List (List (Held State))) (changes : List Bool) (from to : ℕ) : Type 0 where
    pub repeated : (t c : ℕ) → c < length changes → from ≤ t → t < to → held_at news t c ≡ cleared (held_at olds (if is_awake changes c then from - 1 else t) c).state
    pub earlier : (t c : ℕ) → t < from → held_at news t c ≡ held_at olds t c
    pub later : (t c : ℕ) → to ≤ t → held_at news t c ≡ held_at olds t c

  -- states are those of the same cells as the marks
  pub record IsStated (states : Stated State) (due : Marked) : Type 0 where
    pub width : states.width ≡ due.width
    pub cycles : length states.rows ≡ length due.rows
    pub whole : (t : ℕ) → t < length due.rows → length (slice_index_or states.rows t []) ≡ due.width
