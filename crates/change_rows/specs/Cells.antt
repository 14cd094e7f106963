-- Some cells of one row, and what they hold.
use Rattle.std.specs.Prelude.{ℕ, ◌+◌, ◌<◌, ◌≤◌, max, cond, nat_eq, Option, Some, None, List, [], ◌∷◌, length, take, slice_index_or}

-- a component, and the words that it holds
pub record Held : Type 0 where
  pub component : ℕ
  pub words : List ℕ

-- what stands where there is no cell
abbrev pub no_cell : Held
no_cell = record { component = 0; words = [] }

-- the words that cells hold for a component
abbrev pub found : List Held → ℕ → Option (List ℕ)
found [] c = None
found (cell ∷ rest) c = cond (nat_eq cell.component c) (Some cell.words) (found rest c)

-- the first component above those of all cells
abbrev pub end_of : List Held → ℕ
end_of [] = 0
end_of (cell ∷ rest) = max (cell.component + 1) (end_of rest)

abbrev pub component_at : List Held → ℕ → ℕ
component_at cells i = (slice_index_or cells i no_cell).component

-- each component is above those before it
abbrev pub IsAscending : List Held → Type 0
IsAscending cells = (i : ℕ) → i < length cells → end_of (take i cells) ≤ component_at cells i

-- the first n cells are those below component c
pub record IsSplit (cells : List Held) (c n : ℕ) : Type 0 where
  pub within : n ≤ length cells
  pub below : end_of (take n cells) ≤ c
  pub above : n < length cells → c ≤ component_at cells n
