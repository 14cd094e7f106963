-- Which cells there are, and their order.
use Rattle.std.specs.Prelude.{◌≡◌, ℕ, ◌<◌, ◌≤◌}
use Rattle.grid_law.specs.Rules.{Rules}
use Rattle.due_cells.specs.Seen.{Seen}

module _ {State Slots Slot : Type 0} (R : Rules State Slots Slot) where
  -- the cell is there: its cycle is at most the horizon, its component is one of the slots' components
  pub record IsThere (v : Seen State Slots) (t c : ℕ) : Type 0 where
    pub cycle : t ≤ v.horizon
    pub component : c < R.components v.slots

-- cells are ordered by cycle, then by component: (t, c) is (t0, c0) or comes after it
abbrev pub AtOrAfter : ℕ → ℕ → ℕ → ℕ → Type 0
AtOrAfter t0 c0 t c = (t0 ≤ t) × (t0 ≡ t → c0 ≤ c)

-- (t, c) comes before (t1, c1)
abbrev pub Before : ℕ → ℕ → ℕ → ℕ → Type 0
Before t c t1 c1 = (t ≤ t1) × (t ≡ t1 → c < c1)
