-- What an edit does to a table.
use Rattle.std.specs.Prelude.{◌≡◌, ℕ, ◌+◌, if◌then◌else◌, ◌<◌, nat_lt, Bool, true, is_some, List}
use Rattle.grid_law.specs.Rules.{Rules}
use Rattle.due_cells.specs.Seen.{Held, Seen, fresh, marked, held_at}
use Rattle.due_cells.specs.Inputs.{inputs_of}
use Rattle.cell_table.specs.Reads.{reads_one, reads_any}
use Rattle.cell_table.specs.Cells.{IsThere}

module _ {State Slots Slot : Type 0} (R : Rules State Slots Slot) where
  -- whether the cell reads one of these slots
  abbrev pub cell_reads : Slots → List (List (Held State)) → List Slot → ℕ → ℕ → Bool
  cell_reads s rows listed t c = reads_any R s c listed (inputs_of R s rows t c)

  -- whether the cell reads the slot
  abbrev pub cell_reads_one : Slots → List (List (Held State)) → Slot → ℕ → ℕ → Bool
  cell_reads_one s rows slot t c = reads_one R s c slot (inputs_of R s rows t c)

  -- the near states of each cell before a cycle are there
  abbrev pub AreReady : Seen State Slots → ℕ → Type 0
  AreReady v n = (t c : ℕ) → t < n → IsThere R v t c → is_some (inputs_of R v.slots v.rows t c) ≡ true

  -- what is held for a cell after an edit that changed these slots
  abbrev pub held_touched : Seen State Slots → List Slot → ℕ → ℕ → Held State
  held_touched v listed t c =
      if nat_lt v.horizon t then fresh (v.clock + 1) else (if cell_reads v.slots v.rows listed t c then marked (held_at v.rows t c) (v.clock + 1) else held_at v.rows t c)

  -- the new table has the new slots and horizon; its cells that are new, or read a slot listed, are due at the risen clock
  pub record IsAfterTouch (old new : Seen State Slots) (next : Slots) (listed : List Slot) (to : ℕ) : Type 0 where
    pub slots : new.slots ≡ next
    pub horizon : new.horizon ≡ to
    pub clock : new.clock ≡ old.clock + 1
    pub cells : (t c : ℕ) → IsThere R new t c → held_at new.rows t c ≡ held_touched old listed t c
