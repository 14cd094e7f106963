-- What is held for a cell once it is noted which components changed one cycle earlier.
use Rattle.std.specs.Prelude.{ℕ, ◌||◌, Bool, List}
use Rattle.due_cells.specs.Seen.{Held}
use Rattle.cell_states.specs.Versions.{any_changes, version_by}

-- what is held for a cell near these, once the first n components that changed were stored one cycle earlier
abbrev pub noted : {State : Type 0} → Held State → List Bool → List ℕ → ℕ → ℕ → Held State
noted k changes near clock n = record { state = k.state; is_due = k.is_due || any_changes changes near n; version = version_by changes near clock k.version n }
