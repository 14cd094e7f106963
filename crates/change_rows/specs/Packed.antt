-- Cells in two buffers: their heads, and all their words, one cell's after another's.
use Rattle.std.specs.Prelude.{ℕ, ◌+◌, ◌-◌, ◌<◌, ◌≤◌, ◌^◌, List, length, map, slice_index_or, slice_range}
use Rattle.std.specs.List.{range_with_len}
use Rattle.change_rows.specs.declared.head.Head.{Head}
use Rattle.change_rows.specs.Cells.{Held, IsAscending}

-- the head of a cell; behind the last one that of a cell which would begin behind all n words
abbrev pub head_at : List Head → ℕ → ℕ → Head
head_at heads n i = slice_index_or heads i (record { component = 0; from = n })

abbrev pub start_at : List Head → ℕ → ℕ → ℕ
start_at heads n i = (head_at heads n i).from

-- the head of a cell among other cells: those whose words began at `start` begin at `base`
abbrev pub moved : ℕ → ℕ → Head → Head
moved start base head = record { component = head.component; from = head.from - start + base }

-- a cell's words end where those of the next cell begin
abbrev pub cell_at : List Head → List ℕ → ℕ → Held
cell_at heads words i = record { component = (head_at heads (length words) i).component; words = slice_range words (start_at heads (length words) i) (start_at heads (length words) (i + 1)) }

abbrev pub cells_of : List Head → List ℕ → List Held
cells_of heads words = map (cell_at heads words) (range_with_len 0 (length heads))

pub record IsPacked (heads : List Head) (words : List ℕ) : Type 0 where
  pub ascends : IsAscending (cells_of heads words)
  pub climbs : (i : ℕ) → i < length heads → start_at heads (length words) i ≤ start_at heads (length words) (i + 1)
  pub within : (i : ℕ) → start_at heads (length words) i ≤ length words
  pub small : length words < 2 ^ 20

-- the first n components are below c, and the others aren't
pub record IsPlace (heads : List Head) (c n : ℕ) : Type 0 where
  pub within : n ≤ length heads
  pub below : (k : ℕ) → k < n → (head_at heads 0 k).component < c
  pub above : (k : ℕ) → n ≤ k → k < length heads → c ≤ (head_at heads 0 k).component
