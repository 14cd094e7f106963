-- Cycles of cells that are settled together: what one store after another would make of them.
use Rattle.std.specs.Prelude.{◌≡◌, ◌↔◌, ℕ, zero, suc, ◌+◌, ◌<◌, ◌≤◌, if◌then◌else◌, Bool, false, Some, List, All}
use Rattle.grid_law.specs.Rules.{Rules}
use Rattle.grid_law.specs.Run.{run}
use Rattle.due_cells.specs.Seen.{Held, Seen, held_at, stored}
use Rattle.cell_table.specs.Cells.{IsThere}
use Rattle.due_cells.specs.Woken.{differing, woken}
use Rattle.due_cells.specs.Ranges.{is_marked, IsWithin}
use Rattle.cell_states.specs.declared.cell.CellRange.{CellRange}

module _ {State Slots Slot : Type 0} (R : Rules State Slots Slot) (old : Seen State Slots) (differs : ℕ → ℕ → Bool) (from : ℕ) where
  -- the clock after m cycles
  abbrev pub clock_behind : ℕ → ℕ
  clock_behind zero = old.clock
  clock_behind (suc m) = clock_behind m + differing differs (from + m) (R.components old.slots)

  -- what is held for the cells behind m cycles
  abbrev pub reached : ℕ → ℕ → Held State
  reached zero c = held_at old.rows from c
  reached (suc m) c = woken R old.slots old.rows differs (clock_behind m) (from + m) (R.components old.slots) c

  -- how many of the first n components are due then
  abbrev pub costing : ℕ → ℕ → ℕ
  costing m zero = 0
  costing m (suc n) = if (reached m n).is_due then costing m n + 1 else costing m n

  -- how many cells of m cycles are computed
  abbrev pub cost_of : ℕ → ℕ
  cost_of zero = 0
  cost_of (suc m) = cost_of m + costing m (R.components old.slots)

  -- the first m cycles hold the run now, and the cells behind them are due where those stores made them so
  pub record IsPassed (new : Seen State Slots) (m : ℕ) : Type 0 where
    pub slots : new.slots ≡ old.slots
    pub horizon : new.horizon ≡ old.horizon
    pub clock : new.clock ≡ clock_behind m
    pub within : from + m ≤ old.horizon + 1
    pub tells : (t c : ℕ) → IsThere R old t c → from ≤ t → t < from + m → (differs t c ≡ false) ↔ ((held_at old.rows t c).state ≡ Some (run R old.slots t c))
    pub before : (t c : ℕ) → IsThere R old t c → t < from → held_at new.rows t c ≡ held_at old.rows t c
    pub passed : (t c : ℕ) → IsThere R old t c → from ≤ t → t < from + m → held_at new.rows t c ≡ stored (run R old.slots t c)
    pub behind : (t c : ℕ) → IsThere R old t c → t ≡ from + m → held_at new.rows t c ≡ reached m c
    pub later : (t c : ℕ) → IsThere R old t c → from + m < t → held_at new.rows t c ≡ held_at old.rows t c

module _ {State Slots Slot : Type 0} (R : Rules State Slots Slot) where
  -- each cell that is in none of these ranges holds the state that it held
  pub record HoldsBut (old new : Seen State Slots) (ranges : List CellRange) : Type 0 where
    pub slots : new.slots ≡ old.slots
    pub horizon : new.horizon ≡ old.horizon
    pub within : All (IsWithin (old.horizon + 1) (R.components old.slots)) ranges
    pub others : (t c : ℕ) → IsThere R old t c → is_marked ranges t c ≡ false → (held_at new.rows t c).state ≡ (held_at old.rows t c).state
