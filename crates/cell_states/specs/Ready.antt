-- What is ready to be put beside the words of a cell.
use Rattle.std.specs.Prelude.{◌≡◌, ℕ, ◌≤◌, Option, None, Some, List}
use Rattle.change_lists.specs.Changes.{Changes, held_at as memory_at, held_before, room_at}
use Rattle.cell_states.specs.declared.states.memory.Change.{Change}

module _ {Memory : Type 0} where
  -- what the cell has then: nothing ready, what stands before it goes on
  abbrev pub value_in : List (Changes Memory) → ℕ → ℕ → Option (Change Memory) → Option Memory
  value_in memories c t None = held_before memories c t
  value_in memories c t (Some change) = change.value

  -- what stands at the cell is there once more, and there is memory for the change
  abbrev pub IsReady : List (Changes Memory) → ℕ → ℕ → Option (Change Memory) → Type 0
  IsReady memories c t None = Unit {0}
  IsReady memories c t (Some change) = (change.stood ≡ memory_at memories c t) × (2 ≤ room_at memories c)
