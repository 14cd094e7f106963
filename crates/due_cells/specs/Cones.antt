-- Counting cells: those of the first cycles, and those that a cell's state rests on.
use Rattle.std.specs.Prelude.{ℕ, zero, suc, ◌+◌, ◌==◌, ◌&&◌, min, nat_le, nat_lt, if◌then◌else◌, Bool, false, List, slice_index_or, count_by}
use Rattle.std.specs.List.{list_any, range_with_len}
use Rattle.grid_law.specs.Rules.{Rules}
use Rattle.cell_states.specs.Near.{has}

-- the components of a cone at one cycle, by a mark for each of the grid, and whether there may be others one cycle earlier
pub record Marked : Type 0 where
  pub marks : List Bool
  pub grows : Bool

abbrev pub is_in : Marked → ℕ → Bool
is_in members c = slice_index_or members.marks c false

module _ {State Slots Slot : Type 0} (R : Rules State Slots Slot) where
  -- all components, in ascending order
  abbrev pub every : Slots → List ℕ
  every s = range_with_len 0 (R.components s)

  -- how many cells of the cycles 0 to t pass the test
  abbrev pub count_below : Slots → (ℕ → ℕ → Bool) → ℕ → ℕ
  count_below s test zero = count_by (test 0) (every s)
  count_below s test (suc t) = count_by (test (suc t)) (every s) + count_below s test t

  -- and of those that are there
  abbrev pub count_to : Slots → ℕ → (ℕ → ℕ → Bool) → ℕ → ℕ
  count_to s horizon test t = count_below s test (min t horizon)

  -- what is near a component of the set, one cycle earlier
  abbrev pub earlier : Slots → (ℕ → Bool) → ℕ → Bool
  earlier s members m = list_any (λ x. members x && has (R.near s x) m) (every s)

  -- how many cells pass the test in the cone whose components at cycle t are the set
  abbrev pub count_in : Slots → (ℕ → ℕ → Bool) → (ℕ → Bool) → ℕ → ℕ
  count_in s test members zero = count_by (λ c. members c && test 0 c) (every s)
  count_in s test members (suc t) = count_by (λ c. members c && test (suc t) c) (every s) + count_in s test (earlier s members) t

  -- how many cells pass the test in a cell's cone: itself, the cells near it one cycle earlier, and so on; a cell that isn't there has none
  abbrev pub count_cone : Slots → ℕ → (ℕ → ℕ → Bool) → ℕ → ℕ → ℕ
  count_cone s horizon test t c = if nat_le t horizon && nat_lt c (R.components s) then count_in s test (λ m. m == c) t else 0
