-- Which cells read a slot.
use Rattle.std.specs.Prelude.{ℕ, ◌==◌, ◌&&◌, not, if◌then◌else◌, Bool, false, Option, None, Some, List}
use Rattle.std.specs.List.{list_any}
use Rattle.grid_law.specs.declared.reader.Reader.{Reader}
use Rattle.grid_law.specs.Rules.{Rules}

-- whether a reader stands for the cell
abbrev pub is_reader : Reader → ℕ → ℕ → Bool
is_reader reader t c = (reader.component == c) && (if reader.first then t == 0 else not (t == 0))

module _ {State Slots Slot : Type 0} (R : Rules State Slots Slot) where
  -- whether a component reads one of these slots, at these near states; where one isn't there, it reads nothing
  abbrev pub reads_any : Slots → ℕ → List Slot → Option (List State) → Bool
  reads_any s c listed None = false
  reads_any s c listed (Some near) = list_any (λ slot. R.reads s near c slot) listed

  -- whether it reads one slot
  abbrev pub reads_one : Slots → ℕ → Slot → Option (List State) → Bool
  reads_one s c slot None = false
  reads_one s c slot (Some near) = R.reads s near c slot
