-- What the cells of a cycle have, as words and memories, once those of a set of components are put.
use Rattle.std.specs.Prelude.{◌≡◌, ◌↔◌, ℕ, ◌*◌, ◌<◌, ◌≤◌, Bool, true, false, List, [], length}
use Rattle.grid_law.specs.Codec.{Codec, IsTold}
use Rattle.change_rows.specs.Marks.{is_in}
use Rattle.change_rows.specs.Rows.{Table as Words, words_at}
use Rattle.change_lists.specs.Changes.{Changes, held_at as memory_at}
use Rattle.cell_states.specs.Filling.{is_awake}
use Rattle.cell_states.specs.Kept.{AreSameCells}

-- the components of a set have these words at a cycle, and all other cells have theirs
pub record AreWordsPut (olds news : Words) (t : ℕ) (set : List Bool) (words : ℕ → List ℕ) : Type 0 where
  pub cells : AreSameCells olds news
  pub put : (c : ℕ) → is_awake set c ≡ true → words_at news.rows t c ≡ words c
  pub others : (u c : ℕ) → is_awake set c ≡ false → words_at news.rows u c ≡ words_at olds.rows u c
  pub other_cycles : (u c : ℕ) → (u ≡ t → ⊥) → words_at news.rows u c ≡ words_at olds.rows u c

-- of the components of a set just those are members whose cells had other words than these
pub record AreReworded (olds : Words) (t : ℕ) (set : List Bool) (words : ℕ → List ℕ) (members : List ℕ) : Type 0 where
  pub room : length set ≤ 64 * length members
  pub changed : (c : ℕ) → c < length set → is_in members c ≡ true → (is_awake set c ≡ true) × (words_at olds.rows t c ≡ words c → ⊥)
  pub same : (c : ℕ) → is_awake set c ≡ true → is_in members c ≡ false → words_at olds.rows t c ≡ words c

module _ {State Memory : Type 0} (C : Codec State Memory) where
  -- the components of a set have the words and the memories of these states at a cycle, and all other cells have theirs, but for a memory
  -- beside no words, which means nothing; of the set those are marked that had others, and in `worded` those of them that had other words
  pub record AreCodesPut (olds news : Words) (memories memories1 : List (Changes Memory)) (t : ℕ) (set changes worded : List Bool) (states : ℕ → State) : Type 0 where
    pub told : (c : ℕ) → is_awake set c ≡ true → IsTold C (states c)
    pub words : AreWordsPut olds news t set (λ c. C.words (states c))
    pub memory : (c : ℕ) → is_awake set c ≡ true → memory_at memories1 c t ≡ C.memory (states c)
    pub others : (u c : ℕ) → is_awake set c ≡ false → memory_at memories1 c u ≡ memory_at memories c u
    pub other_cycles : (u c : ℕ) → u < length olds.rows → (u ≡ t → ⊥) → (words_at olds.rows u c ≡ [] → ⊥) → memory_at memories1 c u ≡ memory_at memories c u
    pub tells : (c : ℕ) → is_awake set c ≡ true → (is_awake changes c ≡ false) ↔ ((words_at olds.rows t c ≡ C.words (states c)) × (memory_at memories c t ≡ C.memory (states c)))
    pub unmarked : (c : ℕ) → is_awake set c ≡ false → is_awake changes c ≡ false
    pub same_words : (c : ℕ) → is_awake worded c ≡ false → words_at news.rows t c ≡ words_at olds.rows t c
    pub among : (c : ℕ) → is_awake worded c ≡ true → is_awake changes c ≡ true
