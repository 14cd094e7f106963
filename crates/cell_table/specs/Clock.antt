-- The clock after a list of events, and the version of a cell.
use Rattle.std.specs.Prelude.{ℕ, ◌+◌, if◌then◌else◌, Bool, true, false, List, [], ◌∷◌}
use Rattle.grid_law.specs.Rules.{Rules}
use Rattle.cell_table.specs.Events.{Event, Edits, Claims, Stores, Start}
use Rattle.cell_table.specs.Due.{changes}

module _ {State Slots Slot : Type 0} (R : Rules State Slots Slot) (o : Start Slots) where
  -- the events that the clock counts: the edits, and the stores that changed a value
  abbrev pub ticks : Event State Slots Slot → List (Event State Slots Slot) → Bool
  ticks (Edits next listed to) h = true
  ticks (Claims t c) h = false
  ticks (Stores t c x changed) h = changed

  -- the first clock plus their number
  abbrev pub clock_of : List (Event State Slots Slot) → ℕ
  clock_of [] = o.clock
  clock_of (e ∷ h) = if ticks e h then clock_of h + 1 else clock_of h

  -- the clock just after the last event that changed the cell
  abbrev pub version_of : List (Event State Slots Slot) → ℕ → ℕ → ℕ
  version_of [] t c = o.clock
  version_of (e ∷ h) t c = if changes R o e h t c then clock_of (e ∷ h) else version_of h t c
