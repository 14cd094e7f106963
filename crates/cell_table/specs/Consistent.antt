-- What is true of every table: each cell that isn't due holds its start or its step.
use Rattle.std.specs.Prelude.{◌≡◌, ℕ, ◌+◌, ◌<◌, ◌≤◌, false, Some, List, [], length, unwrap_or}
use Rattle.grid_law.specs.Rules.{Rules, result_of}
use Rattle.due_cells.specs.Seen.{Held, row_at, held_at}
use Rattle.due_cells.specs.Inputs.{inputs_of}

module _ {State Slots Slot : Type 0} (R : Rules State Slots Slot) where
  -- x is the start (cycle 0) or the step of the present slots and the present near states
  pub record IsCurrentState (s : Slots) (rows : List (List (Held State))) (t c : ℕ) (x : State) : Type 0 where
    pub inputs : List State
    pub are_held : inputs_of R s rows t c ≡ Some inputs
    pub computed : x ≡ result_of R s inputs c

  -- the state that the present slots and near states give a cell
  abbrev pub current_of : Slots → List (List (Held State)) → ℕ → ℕ → State
  current_of s rows t c = result_of R s (unwrap_or (inputs_of R s rows t c) []) c

  -- the cell holds that state
  pub record IsCurrent (s : Slots) (rows : List (List (Held State))) (t c : ℕ) : Type 0 where
    pub state : State
    pub holds : (held_at rows t c).state ≡ Some state
    pub is_current : IsCurrentState s rows t c state

  -- the cells of the cycles up to the horizon, and no others, are there
  pub record IsWhole (s : Slots) (horizon : ℕ) (rows : List (List (Held State))) : Type 0 where
    pub cycles : length rows ≡ horizon + 1
    pub components : (t : ℕ) → t ≤ horizon → length (row_at rows t) ≡ R.components s

  -- each cell that isn't due is current
  abbrev pub IsConsistent : Slots → ℕ → List (List (Held State)) → Type 0
  IsConsistent s horizon rows =
      (t c : ℕ) → t ≤ horizon → c < R.components s → (held_at rows t c).is_due ≡ false → IsCurrent s rows t c

  -- what is true of each table
  pub record IsTable (s : Slots) (horizon : ℕ) (rows : List (List (Held State))) : Type 0 where
    pub whole : IsWhole s horizon rows
    pub consistent : IsConsistent s horizon rows
