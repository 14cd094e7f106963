-- What happened to a bench: a list of events, the newest first.
use Rattle.std.specs.Prelude.{ℕ, Bool, List, [], ◌∷◌, ◌++◌, length}
use Rattle.cell_table.specs.Events.{Event as TableEvent, Edits, Claims, Stores, Start}
use Rattle.machine_cells.specs.declared.state.MachineState.{MachineState}
use Rattle.project_book.specs.Project.{Project}
use Rattle.project_book.specs.Edits.{edited}
use Rattle.project_book.specs.declared.edit.Edit.{Edit}
use Rattle.project_book.specs.declared.slot.Slot.{Slot}
use Rattle.bench_core.specs.declared.noted.Noted.{Noted}

-- an accepted edit, with its author and the slots that it changed; a claim that was handed out, of the cell at a cycle
-- and of a component; a state that was stored, and whether the cell held none or another one
pub data Event : Type 0 where
  Edited : ℕ → Edit → List Slot → Event
  Claimed : ℕ → ℕ → Event
  Stored : ℕ → ℕ → MachineState → Bool → Event

-- what a bench began with
pub record Opening : Type 0 where
  pub project : Project
  pub clock : ℕ

-- the accepted edits, the oldest first
abbrev pub journal_after : List Event → List Noted
journal_after [] = []
journal_after (Edited author e listed ∷ h) = journal_after h ++ record { author = author; edit = e } ∷ []
journal_after (Claimed t c ∷ h) = journal_after h
journal_after (Stored t c x changed ∷ h) = journal_after h

-- `version(h)`: their number
abbrev pub version_after : List Event → ℕ
version_after h = length (journal_after h)

-- `project(h)`: the first project with these edits
abbrev pub project_after : Opening → List Event → Project
project_after o [] = o.project
project_after o (Edited author e listed ∷ h) = edited (project_after o h) e
project_after o (Claimed t c ∷ h) = project_after o h
project_after o (Stored t c x changed ∷ h) = project_after o h

-- what the events are to the bench's table: each edit is one touch, to the edited project and its horizon
abbrev pub on_table : Opening → List Event → List (TableEvent MachineState Project Slot)
on_table o [] = []
on_table o (Edited author e listed ∷ h) = Edits (edited (project_after o h) e) listed (edited (project_after o h) e).horizon ∷ on_table o h
on_table o (Claimed t c ∷ h) = Claims t c ∷ on_table o h
on_table o (Stored t c x changed ∷ h) = Stores t c x changed ∷ on_table o h

abbrev pub table_start : Opening → Start Project
table_start o = record { slots = o.project; horizon = o.project.horizon; clock = o.clock }
