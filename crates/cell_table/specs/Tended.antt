-- What goes along with a table while it is settled.
use Rattle.std.specs.Prelude.{ℕ, Option}
use Rattle.grid_law.specs.Rules.{Rules}
use Rattle.grid_law.specs.Codec.{Codec}
use Rattle.due_cells.specs.Seen.{Seen}
use Rattle.due_cells.specs.Spares.{AreKept, IsSpare, IsWorkspace}
use Rattle.due_cells.specs.declared.along.Along.{Along}
use Rattle.due_cells.specs.declared.beside.Beside.{Beside}
use Rattle.due_cells.specs.declared.spare.Spare.{Spare}

module _ {State Slots Slot : Type 0} (R : Rules State Slots Slot) where
  -- a watcher keeps what it keeps of the table, and the marks beside the table are right
  pub record IsMarked (keeps : Seen State Slots → Type 0) (v : Seen State Slots) (marks : Spare) : Type 0 where
    pub spare : IsSpare R v marks
    pub watched : keeps v

  module _ {Memory Whole : Type 0} (C : Codec State Memory) (stands : Whole → Slots → Type 0) (state : Whole → ℕ → State) (keeps : Seen State Slots → Type 0) (v : Seen State Slots) where
    -- a watcher keeps what it keeps of the table, and the rows that are kept stand for its slots
    pub record IsTended (rows : Beside Whole) : Type 0 where
      pub watched : keeps v
      pub beside : AreKept R C stands state v.slots rows

    -- a watcher does, and so stands the workspace of a settling
    pub record IsWorked (marks : Spare) (row : Option (Along Whole)) (rows : Beside Whole) : Type 0 where
      pub workspace : IsWorkspace R C stands state v marks row rows
      pub watched : keeps v
