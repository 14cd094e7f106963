-- Cells before and after a change, as words and memories.
use Rattle.std.specs.Prelude.{◌≡◌, ℕ, ◌-◌, ◌<◌, ◌≤◌, Bool, true, false, List, [], length, slice_index_or}
use Rattle.change_rows.specs.Rows.{Table as Words, words_at}
use Rattle.change_lists.specs.Changes.{Changes, changes_at, held_at as memory_at}
use Rattle.cell_states.specs.Filling.{is_awake}

-- one of the cells of a table of words
pub record IsThere (rows : Words) (t c : ℕ) : Type 0 where
  pub cycle : t < length rows.rows
  pub component : c < rows.width

-- a cycle that has one before it, and is before another one
pub record IsLaterCycle (t end : ℕ) : Type 0 where
  pub later : 0 < t
  pub within : t < end

-- words of the same cells
pub record AreSameCells (olds news : Words) : Type 0 where
  pub width : news.width ≡ olds.width
  pub cycles : length news.rows ≡ length olds.rows
  pub lens : (t : ℕ) → length (slice_index_or news.rows t []) ≡ length (slice_index_or olds.rows t [])

-- of as many lists of memories that of one component may be another one, before cycle `end` at one cycle alone
pub record IsOtherMemory {Memory : Type 0} (memories memories1 : List (Changes Memory)) (t c end : ℕ) : Type 0 where
  pub width : length memories1 ≡ length memories
  pub others : (d : ℕ) → (d ≡ c → ⊥) → changes_at memories1 d ≡ changes_at memories d
  pub cycles : (u : ℕ) → u < end → (u ≡ t → ⊥) → memory_at memories1 c u ≡ memory_at memories c u

-- as many lists of memories as there were, and as many marks
pub record AreAsMany {Memory : Type 0} (memories memories1 : List (Changes Memory)) (marks marks1 : List Bool) : Type 0 where
  pub lists : length memories1 ≡ length memories
  pub marked : length marks1 ≡ length marks

module _ {Memory : Type 0} (olds news : Words) (memories memories1 : List (Changes Memory)) where
  -- a cell has the words and the memory that another one had
  abbrev pub HasOf : ℕ → ℕ → ℕ → ℕ → Type 0
  HasOf t c u d = (words_at news.rows t c ≡ words_at olds.rows u d) × (memory_at memories1 c t ≡ memory_at memories d u)

  -- the components that are marked have from one cycle on to before another what they had at the cycle before; all other cells have what they had
  pub record AreRepeated (changes : List Bool) (from to : ℕ) : Type 0 where
    pub cells : AreSameCells olds news
    pub many : length memories1 ≡ length memories
    pub repeated : (t c : ℕ) → is_awake changes c ≡ true → from ≤ t → t < to → HasOf t c (from - 1) c
    pub others : (t c : ℕ) → is_awake changes c ≡ false → HasOf t c t c
    pub earlier : (t c : ℕ) → t < from → HasOf t c t c
    pub behind : (t c : ℕ) → to ≤ t → t < length olds.rows → HasOf t c t c
