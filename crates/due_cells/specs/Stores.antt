-- What is held for the cells after a store.
use Rattle.std.specs.Prelude.{◌≡◌, ℕ, ◌+◌, ◌<◌, ◌==◌, ◌&&◌, if◌then◌else◌, Bool, List, length}
use Rattle.grid_law.specs.Rules.{Rules}
use Rattle.cell_states.specs.declared.cell.Cell.{Cell}
use Rattle.cell_states.specs.Near.{has}
use Rattle.due_cells.specs.Seen.{Held, stored, marked, row_at, held_at}

module _ {State Slots Slot : Type 0} (R : Rules State Slots Slot) where
  -- what is held for a cell after x was stored for (t, c): one that reads it becomes due where it changed
  abbrev pub held_after : Slots → List (List (Held State)) → ℕ → ℕ → State → Bool → ℕ → ℕ → ℕ → Held State
  held_after s rows t c x changed version t1 c1 =
      if (t1 == t) && (c1 == c) then stored x else (if changed && ((t1 == t + 1) && has (R.near s c1) c) then marked (held_at rows t1 c1) version else held_at rows t1 c1)

  -- the rows after x was stored for a cell, and its readers were marked where it changed
  pub record Stores (s : Slots) (olds news : List (List (Held State))) (cell : Cell) (x : State) (changed : Bool) (version : ℕ) : Type 0 where
    pub len : length news ≡ length olds
    pub lens : (t : ℕ) → length (row_at news t) ≡ length (row_at olds t)
    pub at : (t c : ℕ) → t < length olds → c < R.components s → held_at news t c ≡ held_after s olds cell.cycle cell.component x changed version t c
