-- The rows that whoever settles keeps stand for the table's slots.
use Rattle.std.specs.Prelude.{ℕ, IfSome}
use Rattle.grid_law.specs.Rules.{Rules}
use Rattle.grid_law.specs.Codec.{Codec}
use Rattle.cell_states.specs.NextWords.{HoldsWords}
use Rattle.due_cells.specs.declared.beside.Beside.{Beside}

module _ {State Slots Slot Memory : Type 0} (R : Rules State Slots Slot) (C : Codec State Memory) {Whole : Type 0} (stands : Whole → Slots → Type 0) (state : Whole → ℕ → State) where
  -- the rows that are kept stand for these slots, and one holds what is known of it
  pub record AreBeside (s : Slots) (beside : Beside Whole) : Type 0 where
    pub near : IfSome beside.near (HoldsWords R C stands state s)
    pub idle : IfSome beside.idle (λ row. stands row s)
