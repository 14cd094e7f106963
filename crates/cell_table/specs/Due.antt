-- Which cells are due after a list of events.
use Rattle.std.specs.Prelude.{ℕ, ◌+◌, ◌==◌, ◌&&◌, ◌||◌, not, nat_lt, Bool, true, false, List, [], ◌∷◌}
use Rattle.grid_law.specs.Rules.{Rules}
use Rattle.cell_states.specs.Near.{has}
use Rattle.cell_table.specs.Reads.{reads_any}
use Rattle.cell_table.specs.Events.{Event, Edits, Claims, Stores, Start, slots_of, horizon_of}
use Rattle.cell_table.specs.Values.{near_vals}

module _ {State Slots Slot : Type 0} where
  -- the event stores the cell
  abbrev pub stores : Event State Slots Slot → ℕ → ℕ → Bool
  stores (Edits next listed to) t c = false
  stores (Claims t1 c1) t c = false
  stores (Stores t1 c1 x changed) t c = (t == t1) && (c == c1)

module _ {State Slots Slot : Type 0} (R : Rules State Slots Slot) (o : Start Slots) where
  -- the event, after h, changes the cell: it makes it new, or edits a slot that the cell reads from its near values,
  -- or stores in a near cell one cycle earlier another state than its value (or one where there was none)
  abbrev pub changes : Event State Slots Slot → List (Event State Slots Slot) → ℕ → ℕ → Bool
  changes (Edits next listed to) h t c =
      nat_lt (horizon_of o h) t || reads_any R (slots_of o h) c listed (near_vals R o h t c)
  changes (Claims t1 c1) h t c = false
  changes (Stores t1 c1 x changed) h t c = changed && ((t == t1 + 1) && has (R.near (slots_of o h) c) c1)

  -- no store of the cell stands after the last event that changed it; the start changes every cell
  abbrev pub due : List (Event State Slots Slot) → ℕ → ℕ → Bool
  due [] t c = true
  due (e ∷ h) t c = changes e h t c || (not (stores e t c) && due h t c)
