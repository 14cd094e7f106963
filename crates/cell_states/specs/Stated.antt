-- The states of cells.
use Rattle.std.specs.Prelude.{◌≡◌, ℕ, ◌-◌, ◌<◌, ◌≤◌, ◌==◌, ◌&&◌, if◌then◌else◌, Bool, Option, None, List, [], length, slice_index_or}
use Rattle.cell_states.specs.Filling.{is_awake}

-- the states of cells: the rows are those of the cycles from 0 on, and each has that of each of `width` components, where it has one
pub record Stated (State : Type 0) : Type 0 where
  pub width : ℕ
  pub rows : List (List (Option State))

module _ {State : Type 0} where
  -- the state of a cell; none where there is no such cell
  abbrev pub state_at : Stated State → ℕ → ℕ → Option State
  state_at states t c = slice_index_or (slice_index_or states.rows t []) c None

  -- states of the same cells
  pub record IsAsMany (olds news : Stated State) : Type 0 where
    pub width : news.width ≡ olds.width
    pub cycles : length news.rows ≡ length olds.rows
    pub lens : (t : ℕ) → length (slice_index_or news.rows t []) ≡ length (slice_index_or olds.rows t [])

  -- the states are the same
  pub record IsSameStates (olds news : Stated State) : Type 0 where
    pub many : IsAsMany olds news
    pub same : (t c : ℕ) → state_at news t c ≡ state_at olds t c

  -- one cell has another state, or none
  pub record IsOtherState (olds news : Stated State) (t c : ℕ) (state : Option State) : Type 0 where
    pub many : IsAsMany olds news
    pub at : (t1 c1 : ℕ) → state_at news t1 c1 ≡ (if (t1 == t) && (c1 == c) then state else state_at olds t1 c1)

  -- the components that are marked have from one cycle on to before another the state of the cycle before; all other states are the same
  pub record AreStatesRepeated (olds news : Stated State) (changes : List Bool) (from to : ℕ) : Type 0 where
    pub repeated : (t c : ℕ) → from ≤ t → t < to → state_at news t c ≡ state_at olds (if is_awake changes c then from - 1 else t) c
    pub earlier : (t c : ℕ) → t < from → state_at news t c ≡ state_at olds t c
    pub later : (t c : ℕ) → to ≤ t → state_at news t c ≡ state_at olds t c
