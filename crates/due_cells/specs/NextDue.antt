-- The next due cell of a cycle.
use Rattle.std.specs.Prelude.{◌≡◌, ℕ, ◌<◌, ◌≤◌, true, false, List}
use Rattle.due_cells.specs.Seen.{Held, held_in}

-- the first component of a row, at or after that one, that is due
pub record IsNextDueInRow {State : Type 0} (row : List (Held State)) (c0 c : ℕ) : Type 0 where
  pub due : (held_in row c).is_due ≡ true
  pub after : c0 ≤ c
  pub none_between : (k : ℕ) → c0 ≤ k → k < c → (held_in row k).is_due ≡ false
