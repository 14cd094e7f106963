-- Whether a component reads a slot, by its own state.
use Rattle.std.specs.Prelude.{ℕ, Bool, false, Option, None, Some, [], ◌∷◌}
use Rattle.grid_law.specs.Rules.{Rules}

module _ {State Slots Slot : Type 0} (R : Rules State Slots Slot) where
  -- whether it reads the slot after cycle 0, where its own state one cycle earlier was this and the other near states are there
  abbrev pub reads_by : Slots → ℕ → Slot → Option State → Bool
  reads_by s c slot None = false
  reads_by s c slot (Some own) = R.reads s (own ∷ []) c slot
