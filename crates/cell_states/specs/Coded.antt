-- The states of a table's cells, out of the words of each and what stands beside them.
use Rattle.std.specs.Prelude.{◌≡◌, ℕ, Option, List, length, map}
use Rattle.std.specs.List.{range_with_len}
use Rattle.grid_law.specs.Codec.{Codec}
use Rattle.change_rows.specs.Rows.{Table as Words, words_at, IsWhole}
use Rattle.change_lists.specs.Changes.{Changes, held_at as memory_at}
use Rattle.cell_states.specs.Codes.{state_of, IsCode}
use Rattle.cell_states.specs.Stated.{Stated}

module _ {State Memory : Type 0} (C : Codec State Memory) where
  -- the state of a cell
  abbrev pub coded_at : Words → List (Changes Memory) → ℕ → ℕ → Option State
  coded_at words memories t c = state_of C (words_at words.rows t c) (memory_at memories c t)

  -- and those of all, row by row
  abbrev pub states_in : Words → List (Changes Memory) → Stated State
  states_in words memories = record { width = words.width; rows = map (λ t. map (coded_at words memories t) (range_with_len 0 words.width)) (range_with_len 0 (length words.rows)) }

  -- each row has a cell for each component, and what a cell has is the code of its state
  pub record IsCoded (words : Words) (memories : List (Changes Memory)) : Type 0 where
    pub whole : IsWhole words
    pub many : length memories ≡ words.width
    pub codes : (t c : ℕ) → IsCode C (words_at words.rows t c) (memory_at memories c t)
