-- What the cells of a cycle have once those of a set of components are put.
use Rattle.std.specs.Prelude.{◌≡◌, ◌↔◌, ℕ, ◌-◌, ◌<◌, if◌then◌else◌, Bool, true, false, Some, is_some, List, length}
use Rattle.grid_law.specs.Codec.{Codec}
use Rattle.grid_law.specs.ByWords.{AreOfWords}
use Rattle.cell_states.specs.Filling.{is_awake}
use Rattle.cell_states.specs.Stated.{Stated, state_at, IsAsMany}

-- marks of a set of components, one for each of the grid, at a cycle that is there and has one before it
pub record IsSetAt (count width cycles t : ℕ) (set : List Bool) : Type 0 where
  pub later : 0 < t
  pub within : t < cycles
  pub wide : length set ≡ width
  pub components : length set ≡ count

-- marks of so many components, and others of as many
pub record AreMarks (count : ℕ) (changes worded : List Bool) : Type 0 where
  pub marks : length changes ≡ count
  pub others : length worded ≡ count

module _ {State Memory : Type 0} (C : Codec State Memory) where
  -- what is known of a step to a cycle: of a set's components each had a state a cycle before, one that is still has it yet, and one that
  -- hasn't written has its memory yet
  pub record IsStepped (states : Stated State) (t : ℕ) (set : List Bool) (is_still has_written : ℕ → Bool) (state : ℕ → State) : Type 0 where
    pub before : (c : ℕ) → is_awake set c ≡ true → is_some (state_at states (t - 1) c) ≡ true
    pub still : (c : ℕ) (x : State) → is_awake set c ≡ true → state_at states (t - 1) c ≡ Some x → is_still c ≡ true → state c ≡ x
    pub kept : (c : ℕ) (x : State) → is_awake set c ≡ true → state_at states (t - 1) c ≡ Some x → has_written c ≡ false → C.memory (state c) ≡ C.memory x

  -- the components of a set have these states at a cycle, and all other cells what they had; of the set those are marked that had another
  -- one, or none, and in `worded` those of them that had other words, or none
  pub record ArePut (olds news : Stated State) (t : ℕ) (set changes worded : List Bool) (states : ℕ → State) : Type 0 where
    pub many : IsAsMany olds news
    pub put : (c : ℕ) → state_at news t c ≡ (if is_awake set c then Some (states c) else state_at olds t c)
    pub others : (u c : ℕ) → (u ≡ t → ⊥) → state_at news u c ≡ state_at olds u c
    pub tells : (c : ℕ) → is_awake set c ≡ true → (is_awake changes c ≡ false) ↔ (state_at olds t c ≡ Some (states c))
    pub unmarked : (c : ℕ) → is_awake set c ≡ false → is_awake changes c ≡ false
    pub words : (c : ℕ) (x y : State) → is_awake worded c ≡ false → state_at olds t c ≡ Some x → state_at news t c ≡ Some y → AreOfWords C x y
    pub among : (c : ℕ) → is_awake worded c ≡ true → is_awake changes c ≡ true
