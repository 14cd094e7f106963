-- Ranges of cells, and what an edit leaves of a table's cells that marks them.
use Rattle.std.specs.Prelude.{◌≡◌, ℕ, ◌==◌, ◌&&◌, ◌+◌, if◌then◌else◌, ◌<◌, ◌≤◌, nat_le, nat_lt, Bool, not, List, length, All}
use Rattle.std.specs.List.{list_any}
use Rattle.cell_states.specs.declared.cell.CellRange.{CellRange}
use Rattle.cell_states.specs.Filling.{is_awake}
use Rattle.cell_states.specs.Near.{has}
use Rattle.due_cells.specs.Seen.{Held, fresh, marked, held_at, row_at}

-- whether the cell is one of the range
abbrev pub covers : CellRange → ℕ → ℕ → Bool
covers range t c = (c == range.component) && (nat_le range.from t && nat_lt t range.to)

-- whether it is one of some range
abbrev pub is_marked : List CellRange → ℕ → ℕ → Bool
is_marked ranges t c = list_any (λ range. covers range t c) ranges

-- the range has cells of the first n cycles, of a component below that number
abbrev pub IsWithin : ℕ → ℕ → CellRange → Type 0
IsWithin n count range = (range.from ≤ range.to) × (range.to ≤ n) × (range.component < count)

-- ranges of cells from one cycle on to before another, of components below a number
pub record AreBetween (from to count : ℕ) (ranges : List CellRange) : Type 0 where
  pub within : All (IsWithin to count) ranges
  pub after : All (λ range. from ≤ range.from) ranges

-- the range begins where the last one of its component ends
abbrev pub GoesOn : CellRange → CellRange → Type 0
GoesOn last range = (last.component ≡ range.component) × (last.to ≡ range.from) × (last.from ≤ last.to) × (range.from ≤ range.to)

-- the range has all cycles from 1 on to before one
abbrev pub is_later : ℕ → CellRange → Bool
is_later to range = (range.from == 1) && (range.to == to)

-- the component of such a range
abbrev pub has_later : List CellRange → ℕ → ℕ → Bool
has_later ranges to c = list_any (λ range. is_later to range && (c == range.component)) ranges

-- marks of just the components of such ranges, and a list of them
pub record AreLater (ranges : List CellRange) (to : ℕ) (row : List Bool) (members : List ℕ) : Type 0 where
  pub marked : (c : ℕ) → is_awake row c ≡ has_later ranges to c
  pub listed : (c : ℕ) → has members c ≡ has_later ranges to c
  pub there : All (λ c. c < length row) members

-- whether a cell is one of some other range
abbrev pub is_marked_else : List CellRange → ℕ → ℕ → ℕ → Bool
is_marked_else ranges to t c = list_any (λ range. not (is_later to range) && covers range t c) ranges

-- what is held for a cell after an edit with these marks
abbrev pub held_marked : {State : Type 0} → List (List (Held State)) → List CellRange → ℕ → ℕ → ℕ → Held State
held_marked rows marks version t c =
    if nat_lt t (length rows) then (if is_marked marks t c then marked (held_at rows t c) version else held_at rows t c) else fresh version

-- the rows of the cycles up to a horizon, each with a cell for each of so many components, after an edit with these marks
pub record AreRetouched {State : Type 0} (olds news : List (List (Held State))) (marks : List CellRange) (horizon count version : ℕ) : Type 0 where
  pub len : length news ≡ horizon + 1
  pub whole : (t : ℕ) → t ≤ horizon → length (row_at news t) ≡ count
  pub at : (t c : ℕ) → t ≤ horizon → c < count → held_at news t c ≡ held_marked olds marks version t c
