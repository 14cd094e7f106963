-- The words of a module: a list by rows upwards, in which words of 0 are left out.
use Rattle.std.specs.Prelude.{◌≡◌, ℕ, ◌+◌, ◌<◌, ◌≤◌, ◌==◌, nat_lt, if◌then◌else◌, List, [], ◌∷◌, ◌++◌, length, filter, find, slice_index_or}
use Rattle.std.specs.Option.{option_map_or}
use Rattle.mem_module.specs.declared.words.Stored.{Stored}

-- the word of a row, 0 where it isn't listed
abbrev pub word_at : List Stored → ℕ → ℕ
word_at ws row = option_map_or (λ w. w.word) (find (λ w. w.row == row) ws) 0

-- what is listed of a row with this word: nothing where it is 0
abbrev pub stored : ℕ → ℕ → List Stored
stored row word = if word == 0 then [] else record { row = row; word = word } ∷ []

-- the rows below and above one
abbrev pub rows_below : List Stored → ℕ → List Stored
rows_below ws row = filter (λ w. nat_lt w.row row) ws

abbrev pub rows_above : List Stored → ℕ → List Stored
rows_above ws row = filter (λ w. nat_lt row w.row) ws

-- the words where this row has this word
abbrev pub with_word : List Stored → ℕ → ℕ → List Stored
with_word ws row word = rows_below ws row ++ stored row word ++ rows_above ws row

-- the rows rise, from `low` on, and no word is 0
abbrev pub AscendsFrom : ℕ → List Stored → Type 0
AscendsFrom low [] = Unit {0}
AscendsFrom low (w ∷ ws) = (low ≤ w.row) × (0 < w.word) × AscendsFrom (w.row + 1) ws

-- a list that a module may have
abbrev pub IsAscending : List Stored → Type 0
IsAscending ws = AscendsFrom 0 ws

-- the row at place i
abbrev pub row_at : List Stored → ℕ → ℕ
row_at ws i = let w = slice_index_or ws i (record { row = 0; word = 0 }) in w.row

-- the row stands at place i
pub record IsAt (ws : List Stored) (row i : ℕ) : Type 0 where
  pub in_range : i < length ws
  pub has_row : row_at ws i ≡ row

-- the row would go at place i: lower rows before it, higher rows from it on
pub record IsGapFor (ws : List Stored) (row i : ℕ) : Type 0 where
  pub in_range : i ≤ length ws
  pub lower_before : (j : ℕ) → j < i → row_at ws j < row
  pub higher_after : (j : ℕ) → i ≤ j → j < length ws → row < row_at ws j
