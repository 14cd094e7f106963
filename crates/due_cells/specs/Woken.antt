-- What is held for cells after the stores of one cycle.
use Rattle.std.specs.Prelude.{ℕ, zero, suc, ◌+◌, ◌&&◌, if◌then◌else◌, Bool, List}
use Rattle.grid_law.specs.Rules.{Rules}
use Rattle.cell_states.specs.Near.{has}
use Rattle.due_cells.specs.Seen.{Held, held_at, marked}

-- how many of the first n components differ at a cycle
abbrev pub differing : (ℕ → ℕ → Bool) → ℕ → ℕ → ℕ
differing differs t zero = 0
differing differs t (suc n) = if differs t n then differing differs t n + 1 else differing differs t n

module _ {State Slots Slot : Type 0} (R : Rules State Slots Slot) (s : Slots) (rows : List (List (Held State))) (differs : ℕ → ℕ → Bool) where
  -- what is held for a cell once the first n components were stored one cycle earlier, the clock being `clock` before
  abbrev pub woken : ℕ → ℕ → ℕ → ℕ → Held State
  woken clock t zero c = held_at rows (t + 1) c
  woken clock t (suc n) c =
      if differs t n && has (R.near s c) n then marked (woken clock t n c) (clock + (differing differs t n + 1)) else woken clock t n c
