-- What is held for cells once the due ones of a cycle have got the states of the run.
use Rattle.std.specs.Prelude.{◌≡◌, ℕ, ◌<◌, Bool, true, List, length}
use Rattle.grid_law.specs.Codec.{Codec}
use Rattle.grid_law.specs.Rules.{Rules}
use Rattle.cell_states.specs.Filling.{is_awake}
use Rattle.due_cells.specs.Seen.{Held, row_at}
use Rattle.due_cells.specs.WholeRows.{HasWords, IsRowPut}

module _ {State Slots Slot Memory : Type 0} (R : Rules State Slots Slot) (C : Codec State Memory) where
  -- the due cells of a cycle were given the run's states, in as many rows as there were, each with a cell for each component; of those that
  -- are marked for it, `worded` has the ones that held other words, or none
  pub record IsDuePut (s : Slots) (old new : List (List (Held State))) (t : ℕ) (changes worded : List Bool) : Type 0 where
    pub len : length new ≡ length old
    pub lens : (u : ℕ) → u < length old → length (row_at new u) ≡ R.components s
    pub row : IsRowPut R s old new t changes
    pub words : HasWords R C old new t worded
    pub among : (c : ℕ) → is_awake worded c ≡ true → is_awake changes c ≡ true
