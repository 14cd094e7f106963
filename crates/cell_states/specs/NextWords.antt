-- The words of a component one cycle later, out of the words near it.
use Rattle.std.specs.Prelude.{◌≡◌, ◌≢◌, ℕ, suc, ◌-◌, ◌<◌, All, List, None, Some, length, slice_index_or}
use Rattle.grid_law.specs.Rules.{Rules}
use Rattle.grid_law.specs.Codec.{Codec, IsTold}
use Rattle.grid_law.specs.Run.{run}
use Rattle.change_rows.specs.Cells.{Held, found}
use Rattle.change_rows.specs.Rows.{words_at}
use Rattle.change_lists.specs.Changes.{Changes, held_at as memory_at}
use Rattle.cell_states.specs.Near.{AreNear}
use Rattle.cell_states.specs.declared.near.Near.{Near}

module _ {State Memory : Type 0} (C : Codec State Memory) where
  -- a state, and the one that a row holds: both are told by their words and their memory, and they have the same words
  pub record IsOfWords (state xs : ℕ → State) (d : ℕ) : Type 0 where
    pub told : IsTold C (xs d)
    pub row_told : IsTold C (state d)
    pub words : C.words (state d) ≡ C.words (xs d)

module _ {State Slots Slot Memory : Type 0} (R : Rules State Slots Slot) (C : Codec State Memory) where
  -- the same of all components near one
  abbrev pub IsNear : (ℕ → State) → (ℕ → State) → Slots → ℕ → Type 0
  IsNear state xs s c = All (IsOfWords C state xs) (R.near s c)

  -- the words of a cell are those of the run, which they tell
  pub record HasRunWords (s : Slots) (rows : List (List (List ℕ))) (t c : ℕ) : Type 0 where
    pub told : IsTold C (run R s t c)
    pub words : words_at rows t c ≡ C.words (run R s t c)

  -- the words and the memories of a cycle are those of the run, which they tell
  pub record HoldsRunAt (s : Slots) (rows : List (List (List ℕ))) (memories : List (Changes Memory)) (t : ℕ) : Type 0 where
    pub told : (c : ℕ) → c < R.components s → IsTold C (run R s t c)
    pub words : (c : ℕ) → c < R.components s → words_at rows t c ≡ C.words (run R s t c)
    pub memory : (c : ℕ) → c < R.components s → memory_at memories c t ≡ C.memory (run R s t c)

  -- so are those of the cycle before one, and of the cycle before that, where there is one
  pub record HoldsRunBefore (s : Slots) (rows : List (List (List ℕ))) (memories : List (Changes Memory)) (t : ℕ) : Type 0 where
    pub later : 0 < t
    pub before : HoldsRunAt s rows memories (t - 1)
    pub earlier : 0 < t - 1 → HoldsRunAt s rows memories (t - 1 - 1)

-- a draft has for a component these words where its cell has other ones, and else none
pub record IsDrafted (rows : List (List (List ℕ))) (draft : List Held) (t c : ℕ) (words : List ℕ) : Type 0 where
  pub same : found draft c ≡ None → words_at rows t c ≡ words
  pub other : (ws : List ℕ) → found draft c ≡ Some ws → (ws ≡ words) × (words_at rows t c ≢ words)

module _ {State Slots Slot Memory : Type 0} (R : Rules State Slots Slot) (C : Codec State Memory) {Whole : Type 0} (stands : Whole → Slots → Type 0) (state : Whole → ℕ → State) where
  -- a row holds for a component the words of the run at the cycle that is known of it, if one is
  pub record HoldsWords (s : Slots) (near : Near Whole) : Type 0 where
    pub stands_so : stands near.row s
    pub each : length near.at.items ≡ R.components s
    pub words : (d t : ℕ) → d < R.components s → slice_index_or near.at.items d 0 ≡ suc t → IsOfWords C (state near.row) (run R s t) d

  -- a row holds words of the run, and lists tell which components are near each
  pub record HoldsNear (s : Slots) (row : Near Whole) (lists : List (List ℕ)) : Type 0 where
    pub held : HoldsWords s row
    pub near : AreNear R s lists
