-- What is true of a table's fields.
use Rattle.std.specs.Prelude.{ℕ, ◌+◌, ◌≤◌, List}
use Rattle.grid_law.specs.Rules.{Rules}
use Rattle.cell_states.specs.Near.{AreNear}
use Rattle.due_cells.specs.Seen.{Held}
use Rattle.due_cells.specs.Readers.{IsIndex, AreHeld}
use Rattle.cell_table.specs.Consistent.{IsTable}

module _ {State Slots Slot : Type 0} (R : Rules State Slots Slot) where
  -- what is true of a table's fields
  pub record IsKept (s : Slots) (horizon : ℕ) (rows : List (List (Held State))) (readers neighbours : List (List ℕ)) (held : ℕ) : Type 0 where
    pub table : IsTable R s horizon rows
    pub index : IsIndex R s readers
    pub near : AreNear R s neighbours
    pub states : AreHeld R s rows held
    pub within : held ≤ horizon + 1
