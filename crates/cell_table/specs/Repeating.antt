-- Cycles in which the same happens as in the one before them.
use Rattle.std.specs.Prelude.{◌≡◌, ◌≢◌, ℕ, ◌+◌, ◌-◌, ◌<◌, ◌≤◌, ◌||◌, Bool, true, false, List}
use Rattle.grid_law.specs.Rules.{Rules}
use Rattle.due_cells.specs.Seen.{Seen, held_at}
use Rattle.cell_states.specs.Near.{has}
use Rattle.cell_states.specs.Versions.{any_changes}
use Rattle.cell_states.specs.Filling.{is_awake}

module _ {State Slots Slot : Type 0} (R : Rules State Slots Slot) (v : Seen State Slots) (s : ℕ) where
  -- the cell of a component at cycle s gets the state of the cell before, which it holds where it doesn't change
  pub record IsAlike (c : ℕ) (changes_it : Bool) : Type 0 where
    pub before : (m : ℕ) → has (R.near v.slots c) m ≡ true → (held_at v.rows (s - 2) m).state ≡ (held_at v.rows (s - 1) m).state
    pub kept : changes_it ≡ false → (held_at v.rows s c).state ≡ (held_at v.rows (s - 1) c).state
    pub changed : changes_it ≡ true → (held_at v.rows s c).state ≢ (held_at v.rows (s - 1) c).state

module _ {State Slots Slot : Type 0} (R : Rules State Slots Slot) (v : Seen State Slots) (s : ℕ) (changes : List Bool) where
  -- whether a component is due at cycle s
  abbrev pub is_due_here : ℕ → Bool
  is_due_here c = (held_at v.rows s c).is_due

  -- at cycle s each due cell gets the state of the cell before, which those of components that change don't hold
  pub record BeginsAlike : Type 0 where
    pub later : 2 ≤ s
    pub some : (c : ℕ) → c < R.components v.slots → is_awake changes c ≡ true → is_due_here c ≡ true
    pub alike : (c : ℕ) → c < R.components v.slots → is_due_here c ≡ true → IsAlike R v s c (is_awake changes c)

  -- a component that doesn't change holds what it held before cycle s, up to the cycle two before e
  abbrev pub StaysBefore : ℕ → ℕ → Type 0
  StaysBefore e m = is_awake changes m ≡ false → (u : ℕ) → s ≤ u + 1 → u + 1 < e → (held_at v.rows u m).state ≡ (held_at v.rows (s - 1) m).state

  -- to before cycle e a component holds what it holds at cycle s, and so do those near it that don't change
  pub record StaysAlikeTo (c e : ℕ) : Type 0 where
    pub own : (u : ℕ) → s ≤ u → u < e → (held_at v.rows u c).state ≡ (held_at v.rows s c).state
    pub near : (m : ℕ) → has (R.near v.slots c) m ≡ true → StaysBefore e m

  -- so do all that are due
  abbrev pub StaysAlike : ℕ → Type 0
  StaysAlike e = (c : ℕ) → c < R.components v.slots → is_due_here c ≡ true → StaysAlikeTo c e

  -- and the same components are due at each of these cycles
  abbrev pub AreDueAlike : ℕ → Type 0
  AreDueAlike e = (c u : ℕ) → c < R.components v.slots → s < u → u < e
      → ((held_at v.rows u c).is_due || any_changes changes (R.near v.slots c) (R.components v.slots)) ≡ is_due_here c
