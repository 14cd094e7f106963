-- A bench stands for a list of events.
use Rattle.std.specs.Prelude.{◌≡◌, Ok, List, [], ◌∷◌}
use Rattle.cell_table.specs.Stands.{Stands as TableStands}
use Rattle.machine_cells.specs.GridRules.{rp3_rules}
use Rattle.project_book.specs.Slots.{Touches}
use Rattle.project_book.specs.Edits.{accepts, edited}
use Rattle.bench_core.specs.Shown.{Shown}
use Rattle.bench_core.specs.Events.{Event, Edited, Claimed, Stored, Opening, journal_after, version_after, project_after, on_table, table_start}

-- each edit was accepted, and lists the slots that it changed
abbrev pub AreAccepted : Opening → List Event → Type 0
AreAccepted o [] = Unit {0}
AreAccepted o (Edited author e listed ∷ h) =
    (accepts (project_after o h) (version_after h) e ≡ Ok tt) × Touches (project_after o h) (edited (project_after o h) e) listed × AreAccepted o h
AreAccepted o (Claimed t c ∷ h) = AreAccepted o h
AreAccepted o (Stored t c x changed ∷ h) = AreAccepted o h

-- the journal holds the accepted edits, and the table stands for what the events are to it: its slots, horizon, clock,
-- and for each cell its state, whether it is due, and its version
pub record Stands (o : Opening) (b : Shown) (h : List Event) : Type 0 where
  pub accepted : AreAccepted o h
  pub journal : b.journal ≡ journal_after h
  pub table : TableStands rp3_rules (table_start o) b.table (on_table o h)

-- some list of events is behind the bench
abbrev pub HasHistory : Shown → Type 0
HasHistory b = (o : Opening) × (h : List Event) × Stands o b h
