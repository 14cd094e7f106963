-- Whether a claim was overtaken, judged by the places of events.
use Rattle.std.specs.Prelude.{ℕ, ◌&&◌, ◌||◌, nat_lt, Bool, false, List, [], ◌∷◌, length}
use Rattle.grid_law.specs.Rules.{Rules}
use Rattle.cell_table.specs.Events.{Event, Edits, Claims, Stores, Start}
use Rattle.cell_table.specs.Due.{changes, stores}

module _ {State Slots Slot : Type 0} where
  -- the event removes the cell by a smaller horizon
  abbrev pub removes : Event State Slots Slot → ℕ → ℕ → Bool
  removes (Edits next listed to) t c = nat_lt to t
  removes (Claims t1 c1) t c = false
  removes (Stores t1 c1 x changed) t c = false

module _ {State Slots Slot : Type 0} (R : Rules State Slots Slot) (o : Start Slots) where
  -- the event, after h, changes, stores or removes the cell
  abbrev pub affects : Event State Slots Slot → List (Event State Slots Slot) → ℕ → ℕ → Bool
  affects e h t c = changes R o e h t c || (stores e t c || removes e t c)

  -- some event after place n affects the cell; the place of an event is the number of those before it
  abbrev pub overtaken : List (Event State Slots Slot) → ℕ → ℕ → ℕ → Bool
  overtaken [] n t c = false
  overtaken (e ∷ h) n t c = nat_lt n (length h) && (affects e h t c || overtaken h n t c)
