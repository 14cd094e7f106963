-- What happened to a table: a list of events, the newest first.
use Rattle.std.specs.Prelude.{ℕ, Bool, List, [], ◌∷◌}

-- an accepted edit (the slots after it, those that it changed, the horizon after it); a claim that was handed out;
-- a stored state (and whether the cell held no state or another one)
pub data Event (State Slots Slot : Type 0) : Type 0 where
  Edits : Slots → List Slot → ℕ → Event State Slots Slot
  Claims : ℕ → ℕ → Event State Slots Slot
  Stores : ℕ → ℕ → State → Bool → Event State Slots Slot

-- what a table began with
pub record Start (Slots : Type 0) : Type 0 where
  pub slots : Slots
  pub horizon : ℕ
  pub clock : ℕ

module _ {State Slots Slot : Type 0} (o : Start Slots) where
  -- the slots after these events: those of the last edit
  abbrev pub slots_of : List (Event State Slots Slot) → Slots
  slots_of [] = o.slots
  slots_of (Edits next listed to ∷ h) = next
  slots_of (Claims t c ∷ h) = slots_of h
  slots_of (Stores t c x changed ∷ h) = slots_of h

  -- the horizon after these events
  abbrev pub horizon_of : List (Event State Slots Slot) → ℕ
  horizon_of [] = o.horizon
  horizon_of (Edits next listed to ∷ h) = to
  horizon_of (Claims t c ∷ h) = horizon_of h
  horizon_of (Stores t c x changed ∷ h) = horizon_of h
