-- The state that each cell holds after a list of events.
use Rattle.std.specs.Prelude.{ℕ, ◌-◌, ◌==◌, ◌&&◌, nat_lt, if◌then◌else◌, Option, None, Some, List, [], ◌∷◌}
use Rattle.grid_law.specs.Rules.{Rules}
use Rattle.due_cells.specs.Inputs.{with_state}
use Rattle.cell_table.specs.Events.{Event, Edits, Claims, Stores, Start, slots_of, horizon_of}

module _ {State : Type 0} where
  -- the values at these components, where all are there
  abbrev pub vals : (ℕ → Option State) → List ℕ → Option (List State)
  vals at [] = Some []
  vals at (m ∷ ms) = with_state (at m) (vals at ms)

module _ {State Slots Slot : Type 0} (R : Rules State Slots Slot) (o : Start Slots) where
  -- the last state stored for the cell since it last became new, or none;
  -- a cell is new at the start, and at an edit that raises the horizon to its cycle or past it
  abbrev pub val : List (Event State Slots Slot) → ℕ → ℕ → Option State
  val [] t c = None
  val (Edits next listed to ∷ h) t c = if nat_lt (horizon_of o h) t then None else val h t c
  val (Claims t1 c1 ∷ h) t c = val h t c
  val (Stores t1 c1 x changed ∷ h) t c = if (t == t1) && (c == c1) then Some x else val h t c

  -- the values of the near cells one cycle earlier, where all are there; cycle 0 has none
  abbrev pub near_vals : List (Event State Slots Slot) → ℕ → ℕ → Option (List State)
  near_vals h t c = if t == 0 then Some [] else vals (val h (t - 1)) (R.near (slots_of o h) c)
