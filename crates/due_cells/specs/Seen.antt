-- What is held for cells, and what a contract sees of a table of them.
use Rattle.std.specs.Prelude.{ℕ, Bool, true, false, Option, Some, None, List, [], slice_index_or, take, sum_by, count_by}

-- what a table holds for a cell: its state, whether it is due, and where it is the clock just after it last became due, else 0
pub record Held (State : Type 0) : Type 0 where
  pub state : Option State
  pub is_due : Bool
  pub version : ℕ

-- a table: the rows are those of the cycles from 0 on, and a row has what is held for each component
pub record Seen (State Slots : Type 0) : Type 0 where
  pub slots : Slots
  pub horizon : ℕ
  pub clock : ℕ
  pub rows : List (List (Held State))

module _ {State : Type 0} where
  -- what is held for a cell that isn't there
  abbrev pub nothing : Held State
  nothing = record { state = None; is_due = false; version = 0 }

  -- what is held for a new cell
  abbrev pub fresh : ℕ → Held State
  fresh v = record { state = None; is_due = true; version = v }

  -- what is held for a cell once its state was stored
  abbrev pub stored : State → Held State
  stored x = record { state = Some x; is_due = false; version = 0 }

  -- what is held for a cell once it became due
  abbrev pub marked : Held State → ℕ → Held State
  marked k v = record { state = k.state; is_due = true; version = v }

  -- what a row holds for a component
  abbrev pub held_in : List (Held State) → ℕ → Held State
  held_in row c = slice_index_or row c nothing

  -- the row of a cycle
  abbrev pub row_at : List (List (Held State)) → ℕ → List (Held State)
  row_at rows t = slice_index_or rows t []

  -- what is held for a cell
  abbrev pub held_at : List (List (Held State)) → ℕ → ℕ → Held State
  held_at rows t c = held_in (row_at rows t) c

  -- whether a cell is marked due
  abbrev pub due_at : List (List (Held State)) → ℕ → ℕ → Bool
  due_at rows t c = (held_at rows t c).is_due

  -- how many cells of a row are due
  abbrev pub due_in_row : List (Held State) → ℕ
  due_in_row row = count_by (λ k. k.is_due) row

  -- how many cells are due in the first n rows
  abbrev pub due_up_to : List (List (Held State)) → ℕ → ℕ
  due_up_to rows n = sum_by due_in_row (take n rows)
