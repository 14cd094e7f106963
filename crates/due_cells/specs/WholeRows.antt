-- Cycles that are settled by a row of all components.
use Rattle.std.specs.Prelude.{length, ◌≡◌, ◌↔◌, ℕ, ◌-◌, ◌<◌, if◌then◌else◌, Bool, true, false, Some, List}
use Rattle.grid_law.specs.Rules.{Rules}
use Rattle.grid_law.specs.Codec.{Codec}
use Rattle.grid_law.specs.Run.{run}
use Rattle.grid_law.specs.ByWords.{AreOfWords}
use Rattle.due_cells.specs.Seen.{Held, held_at, row_at}
use Rattle.due_cells.specs.Layout.{cleared}
use Rattle.cell_states.specs.Filling.{is_awake}

module _ {State Slots Slot : Type 0} (R : Rules State Slots Slot) where
  -- a row of these slots holds their run at a cycle
  pub record HoldsRow {Whole : Type 0} (stands : Whole → Slots → Type 0) (state : Whole → ℕ → State) (s : Slots) (row : Whole) (t : ℕ) : Type 0 where
    pub stands_so : stands row s
    pub states : (c : ℕ) → c < R.components s → state row c ≡ run R s t c

  -- what is known of a step to a cycle: a component that is still has the state that it had a cycle before, and one that hasn't written
  -- has the memory that it had
  pub record IsKnown {Memory : Type 0} (C : Codec State Memory) (is_still has_written : ℕ → Bool) (s : Slots) (t : ℕ) : Type 0 where
    pub still : (c : ℕ) → c < R.components s → is_still c ≡ true → run R s t c ≡ run R s (t - 1) c
    pub kept : (c : ℕ) → c < R.components s → has_written c ≡ false → C.memory (run R s t c) ≡ C.memory (run R s (t - 1) c)

  -- the cells of a set are due and are to get the run's states at a cycle before which all hold the run; all other due ones there have theirs
  pub record IsToPut (s : Slots) (cells : List (List (Held State))) (t : ℕ) (set : List Bool) : Type 0 where
    pub later : 0 < t
    pub within : t < length cells
    pub whole : (u : ℕ) → u < length cells → length (row_at cells u) ≡ R.components s
    pub wide : length set ≡ R.components s
    pub due : (c : ℕ) → is_awake set c ≡ true → (held_at cells t c).is_due ≡ true
    pub rest : (c : ℕ) → (held_at cells t c).is_due ≡ true → is_awake set c ≡ false → (held_at cells t c).state ≡ Some (run R s t c)
    pub before : (u c : ℕ) → u < t → c < R.components s → (held_at cells u c).state ≡ Some (run R s u c)

  -- what the cells of a cycle hold has the same words as what they held, but for those of a set; a cell that held nothing is in it
  abbrev pub HasWords : {Memory : Type 0} → Codec State Memory → List (List (Held State)) → List (List (Held State)) → ℕ → List Bool → Type 0
  HasWords C old new t worded = (c : ℕ) (x y : State) → is_awake worded c ≡ false → (held_at old t c).state ≡ Some x → (held_at new t c).state ≡ Some y → AreOfWords C x y

  -- the due cells of a cycle were given the run's states, and those are marked that held another state or none; none of the cycle is due
  pub record IsRowPut (s : Slots) (old new : List (List (Held State))) (t : ℕ) (changes : List Bool) : Type 0 where
    pub tells : (c : ℕ) → c < R.components s → (held_at old t c).is_due ≡ true → (is_awake changes c ≡ false) ↔ ((held_at old t c).state ≡ Some (run R s t c))
    pub unmarked : (c : ℕ) → c < R.components s → (held_at old t c).is_due ≡ false → is_awake changes c ≡ false
    pub put : (c : ℕ) → c < R.components s → held_at new t c ≡ cleared (if (held_at old t c).is_due then Some (run R s t c) else (held_at old t c).state)
    pub others : (u c : ℕ) → (u ≡ t → ⊥) → held_at new u c ≡ held_at old u c
