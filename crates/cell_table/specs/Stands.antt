-- A table stands for a list of events.
use Rattle.std.specs.Prelude.{◌≡◌, ◌↔◌, ℕ, true, false, Some, List, [], ◌∷◌}
use Rattle.grid_law.specs.Rules.{Rules, Differ}
use Rattle.due_cells.specs.Seen.{Seen, held_at}
use Rattle.cell_table.specs.Cells.{IsThere}
use Rattle.cell_table.specs.Events.{Event, Edits, Claims, Stores, Start, slots_of, horizon_of}
use Rattle.cell_table.specs.Values.{val}
use Rattle.cell_table.specs.Due.{due}
use Rattle.cell_table.specs.Clock.{clock_of, version_of}

module _ {State Slots Slot : Type 0} (R : Rules State Slots Slot) (o : Start Slots) where
  -- each edit lists exactly the slots that it changed, and each store says whether it changed the value
  abbrev pub IsLegal : List (Event State Slots Slot) → Type 0
  IsLegal [] = Unit {0}
  IsLegal (Edits next listed to ∷ h) = Differ R (slots_of o h) next listed × IsLegal h
  IsLegal (Claims t c ∷ h) = IsLegal h
  IsLegal (Stores t c x changed ∷ h) = ((changed ≡ false) ↔ (val R o h t c ≡ Some x)) × IsLegal h

  -- the cell holds its value, is due where the events say so, and then has the version that they say
  pub record CellStands (v : Seen State Slots) (h : List (Event State Slots Slot)) (t c : ℕ) : Type 0 where
    pub state : (held_at v.rows t c).state ≡ val R o h t c
    pub is_due : (held_at v.rows t c).is_due ≡ due R o h t c
    pub version : due R o h t c ≡ true → (held_at v.rows t c).version ≡ version_of R o h t c

  -- the table's slots, horizon, clock and cells are those of the events
  pub record Stands (v : Seen State Slots) (h : List (Event State Slots Slot)) : Type 0 where
    pub legal : IsLegal h
    pub slots : v.slots ≡ slots_of o h
    pub horizon : v.horizon ≡ horizon_of o h
    pub clock : v.clock ≡ clock_of R o h
    pub cells : (t c : ℕ) → IsThere R v t c → CellStands v h t c
