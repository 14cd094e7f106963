-- Which components read which, as a list and as marks for each, and which cells are held.
use Rattle.std.specs.Prelude.{◌≡◌, ℕ, ◌<◌, Bool, true, is_some, List, [], length, slice_index_or, All}
use Rattle.cell_marks.specs.Marked.{is_set, row_at}
use Rattle.grid_law.specs.Rules.{Rules}
use Rattle.cell_states.specs.Near.{has, near_at}
use Rattle.due_cells.specs.Seen.{Held, held_at, row_at as cells_at}

-- the list for a component
abbrev pub readers_at : List (List ℕ) → ℕ → List ℕ
readers_at lists c = slice_index_or lists c []

-- for each component, the marks are those of its list
pub record AreMasks (lists : List (List ℕ)) (masks : List (List Bool)) : Type 0 where
  pub one_each : length masks ≡ length lists
  pub width : (c : ℕ) → c < length lists → length (row_at masks c) ≡ length lists
  pub same : (c k : ℕ) → c < length lists → k < length lists → is_set (row_at masks c) k ≡ has (readers_at lists c) k

-- near each component are those in whose lists it is
abbrev pub AreTurned : List (List ℕ) → List (List ℕ) → Type 0
AreTurned lists near = (c k : ℕ) → c < length lists → k < length lists → has (near_at near k) c ≡ has (readers_at lists c) k

module _ {State Slots Slot : Type 0} (R : Rules State Slots Slot) where
  -- for each component, the list has the components that have it among their near ones, and no others
  pub record IsIndex (s : Slots) (lists : List (List ℕ)) : Type 0 where
    pub one_each : length lists ≡ R.components s
    pub readers : (c k : ℕ) → c < R.components s → k < R.components s → has (readers_at lists c) k ≡ has (R.near s k) c
    pub within : (c : ℕ) → c < R.components s → All (λ k. k < R.components s) (readers_at lists c)

  -- one of the cycles of a table, each of which has a cell for each component, and lists of the components that read each
  pub record IsIndexed (s : Slots) (rows : List (List (Held State))) (t : ℕ) (lists : List (List ℕ)) : Type 0 where
    pub cycle : t < length rows
    pub whole : (u : ℕ) → u < length rows → length (cells_at rows u) ≡ R.components s
    pub index : IsIndex s lists

  -- each cell before a cycle holds a state
  abbrev pub AreHeld : Slots → List (List (Held State)) → ℕ → Type 0
  AreHeld s rows n = (t c : ℕ) → t < n → c < R.components s → is_some (held_at rows t c).state ≡ true
