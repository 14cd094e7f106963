-- What a contract sees of a bench.
use Rattle.std.specs.Prelude.{◌≡◌, ℕ, ◌≤◌, nat_le, if◌then◌else◌, Option, None, Some, List, length}
use Rattle.due_cells.specs.Seen.{Seen, held_at}
use Rattle.machine_cells.specs.declared.state.MachineState.{MachineState}
use Rattle.monitor_sums.specs.Kept.{Kept, StandsFor}
use Rattle.project_book.specs.Project.{Project}
use Rattle.project_book.specs.Limits.{max_edits}
use Rattle.project_book.specs.Scales.{most_horizon}
use Rattle.bench_core.specs.declared.noted.Noted.{Noted}

-- its table of cells, and the edits that it accepted, the oldest first
pub record Shown : Type 0 where
  pub table : Seen MachineState Project
  pub journal : List Noted

-- the project after these edits, and how many there are
abbrev pub project_of : Shown → Project
project_of b = b.table.slots

abbrev pub version_of : Shown → ℕ
version_of b = length b.journal

-- the state that a cell holds
abbrev pub held : Seen MachineState Project → ℕ → ℕ → Option MachineState
held v t c = (held_at v.rows t c).state

-- the same, and none past the horizon
abbrev pub present : Seen MachineState Project → ℕ → ℕ → Option MachineState
present v t c = if nat_le t v.horizon then held v t c else None

-- the last cycle that the counters of a project's bench count
abbrev pub last_counted : Project → ℕ
last_counted P = most_horizon P.scale

-- what is true of every bench: its table ends at the project's horizon, no later than its counters count, and its journal
-- isn't overfull
pub record IsBench (table : Seen MachineState Project) (journal : List Noted) : Type 0 where
  pub horizon : table.horizon ≡ table.slots.horizon
  pub short : table.horizon ≤ last_counted table.slots
  pub few : length journal ≤ max_edits

-- counters count the states that are held now
pub record IsCounted (sums : Kept) (table : Seen MachineState Project) : Type 0 where
  pub shape : sums.k ≡ table.slots.k
  pub last : sums.last ≡ last_counted table.slots
  pub counts : StandsFor sums (present table)

-- and so do those of every bench, where there are any yet
abbrev pub AreCounted : Option Kept → Seen MachineState Project → Type 0
AreCounted None table = Unit {0}
AreCounted (Some sums) table = IsCounted sums table
