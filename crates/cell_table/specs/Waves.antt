-- Cells of one cycle that are computed together.
use Rattle.std.specs.Prelude.{◌≡◌, ℕ, zero, suc, ◌-◌, ◌<◌, List, [], ◌∷◌, ◌++◌, Option, None, Some, IfSome, option_map, Result, Ok, Err, if◌then◌else◌}
use Rattle.cell_states.specs.declared.cell.Cell.{Cell}
use Rattle.grid_law.specs.Rules.{Rules}
use Rattle.grid_law.specs.Run.{run}
use Rattle.due_cells.specs.Seen.{Held, Seen, due_at}
use Rattle.cell_table.specs.Cells.{IsThere}
use Rattle.cell_table.specs.Claims.{NoneDue}
use Rattle.cell_table.specs.Settling.{NoneDueBefore}

-- a cell, and what is known of its state: nothing, or the state, or, where that is `None`, that it is the one of the cell before
pub record Worked (State : Type 0) : Type 0 where
  pub cell : Cell
  pub known : Option (Option State)

-- what is known by a computation that came to this, or that wasn't made
abbrev pub known_of : {A State E : Type 0} → (A → State) → Option (Result (Option A) E) → Option (Option State)
known_of value None = None
known_of value (Some (Err fault)) = None
known_of value (Some (Ok found)) = Some (option_map value found)

-- the due cells among the first n components of a cycle, in their order; nothing was computed for any
abbrev pub works_below : {State : Type 0} → List (List (Held State)) → ℕ → ℕ → List (Worked State)
works_below rows t zero = []
works_below rows t (suc n) =
    works_below rows t n ++ (if due_at rows t n then record { cell = record { cycle = t; component = n }; known = None } ∷ [] else [])

module _ {State Slots Slot : Type 0} (R : Rules State Slots Slot) where
  -- the cell's state in the run, or that the run has it at the cycle before too
  abbrev pub IsFound : Slots → ℕ → ℕ → Option State → Type 0
  IsFound s t c None = (0 < t) × (run R s (t - 1) c ≡ run R s t c)
  IsFound s t c (Some x) = x ≡ run R s t c

  -- what is known of the cell is so in the run
  abbrev pub IsWork : Slots → Worked State → Type 0
  IsWork s w = IfSome w.known (IsFound s w.cell.cycle w.cell.component)

  -- the cell is there, and none of an earlier cycle is due
  pub record IsReady (v : Seen State Slots) (t c : ℕ) : Type 0 where
    pub there : IsThere R v t c
    pub none_earlier : NoneDueBefore R v t 0

  -- all due cells of the first cycle that has any, in the order of components; none where no cell is due
  abbrev pub IsNextWave : Seen State Slots → List (Worked State) → Type 0
  IsNextWave v [] = NoneDue R v
  IsNextWave v (w ∷ ws) = NoneDueBefore R v w.cell.cycle 0 × (w ∷ ws ≡ works_below v.rows w.cell.cycle (R.components v.slots))
