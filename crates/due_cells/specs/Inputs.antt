-- The states that a cell is computed from.
use Rattle.std.specs.Prelude.{ℕ, ◌-◌, ◌==◌, if◌then◌else◌, Option, Some, None, List, [], ◌∷◌}
use Rattle.grid_law.specs.Rules.{Rules}
use Rattle.due_cells.specs.Seen.{Held, held_in, row_at}

module _ {State : Type 0} where
  -- the list with that state in front, where both are there
  abbrev pub with_state : Option State → Option (List State) → Option (List State)
  with_state None xs = None
  with_state (Some x) None = None
  with_state (Some x) (Some xs) = Some (x ∷ xs)

  -- the states of these components in a row, where all of them have one
  abbrev pub states_of : List (Held State) → List ℕ → Option (List State)
  states_of row [] = Some []
  states_of row (c ∷ cs) = with_state (held_in row c).state (states_of row cs)

module _ {State Slots Slot : Type 0} (R : Rules State Slots Slot) where
  -- the states of the near cells one cycle earlier, where all of them have one; cycle 0 has none
  abbrev pub inputs_of : Slots → List (List (Held State)) → ℕ → ℕ → Option (List State)
  inputs_of s rows t c = if t == 0 then Some [] else states_of (row_at rows (t - 1)) (R.near s c)
