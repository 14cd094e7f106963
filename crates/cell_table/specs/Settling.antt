-- Settling a table, one due cell after another.
use Rattle.std.specs.Prelude.{◌≡◌, ◌≢◌, ℕ, ◌+◌, ◌-◌, ◌*◌, ◌^◌, ◌<◌, ◌≤◌, Some, Bool, true, false, List, [], ◌∷◌, length}
use Rattle.cell_states.specs.declared.cell.Cell.{Cell}
use Rattle.cell_table.specs.declared.given.SettleFault.{SettleFault}
use Rattle.cell_table.specs.declared.given.SettleFault.TheVariants.{ClockSpent, Memory}
use Rattle.grid_law.specs.Rules.{Rules}
use Rattle.due_cells.specs.Seen.{Seen, held_at}
use Rattle.cell_table.specs.Cells.{IsThere, AtOrAfter, Before}
use Rattle.cell_table.specs.Consistent.{current_of}
use Rattle.cell_table.specs.Claims.{NoneDue}
use Rattle.cell_table.specs.Gives.{IsAfterStore}
use Rattle.cell_table.specs.Events.{Event, Edits, Claims, Stores}
use Rattle.grid_law.specs.Run.{run}

module _ {State Slots Slot : Type 0} (R : Rules State Slots Slot) where
  -- no cell before that one is due
  abbrev pub NoneDueBefore : Seen State Slots → ℕ → ℕ → Type 0
  NoneDueBefore v t0 c0 = (t c : ℕ) → IsThere R v t c → Before t c t0 c0 → (held_at v.rows t c).is_due ≡ false

  -- each cell before that one holds the run
  abbrev pub HoldsRunBefore : Seen State Slots → ℕ → ℕ → Type 0
  HoldsRunBefore v t0 c0 = (t c : ℕ) → IsThere R v t c → Before t c t0 c0 → (held_at v.rows t c).state ≡ Some (run R v.slots t c)

  -- what is computed for the cell is the state that the cell before it holds
  pub record IsAsBefore (v : Seen State Slots) (t c : ℕ) : Type 0 where
    pub later : 0 < t
    pub holds : (held_at v.rows (t - 1) c).state ≡ Some (current_of R v.slots v.rows t c)

  -- no cell is due, and each holds the run
  pub record IsSettled (v : Seen State Slots) : Type 0 where
    pub none_due : NoneDue R v
    pub runs : (t c : ℕ) → IsThere R v t c → (held_at v.rows t c).state ≡ Some (run R v.slots t c)

  -- the same of the cells up to a cycle
  pub record IsSettledTo (last : ℕ) (v : Seen State Slots) : Type 0 where
    pub none_due : (t c : ℕ) → IsThere R v t c → t ≤ last → (held_at v.rows t c).is_due ≡ false
    pub runs : (t c : ℕ) → IsThere R v t c → t ≤ last → (held_at v.rows t c).state ≡ Some (run R v.slots t c)

  -- no cell at or after that one is due
  abbrev pub NoneDueFrom : Seen State Slots → ℕ → ℕ → Type 0
  NoneDueFrom v t0 c0 = (t c : ℕ) → IsThere R v t c → AtOrAfter t0 c0 t c → (held_at v.rows t c).is_due ≡ false

  -- the first due cell at or after that one
  pub record IsNextDue (v : Seen State Slots) (t0 c0 : ℕ) (cell : Cell) : Type 0 where
    pub there : IsThere R v cell.cycle cell.component
    pub due : (held_at v.rows cell.cycle cell.component).is_due ≡ true
    pub after : AtOrAfter t0 c0 cell.cycle cell.component
    pub none_between : (t c : ℕ) → IsThere R v t c → AtOrAfter t0 c0 t c → Before t c cell.cycle cell.component → (held_at v.rows t c).is_due ≡ false

  -- the cell, which was the first of all that were due, was given the state of the run
  pub record IsSettledCell (old new : Seen State Slots) (t c : ℕ) (x : State) (changed : Bool) : Type 0 where
    pub there : IsThere R old t c
    pub due : (held_at old.rows t c).is_due ≡ true
    pub none_before : NoneDueBefore old t c
    pub runs : x ≡ run R old.slots t c
    pub after : IsAfterStore R old new t c x changed

  -- the first due cell at or after that one was settled, and none before it or at it is due now
  pub record SettlesNext (old new : Seen State Slots) (t0 c0 : ℕ) (cell : Cell) : Type 0 where
    pub after : AtOrAfter t0 c0 cell.cycle cell.component
    pub changed : Bool
    pub settled : IsSettledCell old new cell.cycle cell.component (run R old.slots cell.cycle cell.component) changed
    pub room : changed ≡ true → old.clock < 2 ^ 64 - 1
    pub none_before : NoneDueBefore new cell.cycle (cell.component + 1)
    pub runs_before : HoldsRunBefore new cell.cycle (cell.component + 1)

  -- the run has another state for the first due cell at or after that one, and the clock is at its last value
  pub record IsSpent (v : Seen State Slots) (t0 c0 : ℕ) : Type 0 where
    pub clock : v.clock ≡ 2 ^ 64 - 1
    pub cell : Cell
    pub next : IsNextDue v t0 c0 cell
    pub differs : (held_at v.rows cell.cycle cell.component).state ≢ Some (run R v.slots cell.cycle cell.component)

  -- and that cell stands before a cycle
  abbrev pub IsSpentBefore : ℕ → Seen State Slots → ℕ → ℕ → Type 0
  IsSpentBefore end v t0 c0 = (spent : IsSpent v t0 c0) × (spent.cell.cycle < end)

  -- the second table is the first after these cells were settled, the newest first, all before that one
  abbrev pub Settling : Seen State Slots → List (Event State Slots Slot) → Seen State Slots → ℕ → ℕ → Type 0
  Settling old [] new t0 c0 = new ≡ old
  Settling old (Edits next listed to ∷ done) new t0 c0 = ⊥
  Settling old (Claims t c ∷ done) new t0 c0 = ⊥
  Settling old (Stores t c x changed ∷ done) new t0 c0 =
      (mid : Seen State Slots) × Settling old done mid t c × IsSettledCell mid new t c x changed × Before t c t0 c0

  -- a pass has come to that cell: these cells were settled, and those before it hold the run
  pub record IsAt (old now : Seen State Slots) (t0 c0 computed : ℕ) : Type 0 where
    pub done : List (Event State Slots Slot)
    pub settling : Settling old done now t0 c0
    pub number : length done ≡ computed
    pub none_before : NoneDueBefore now t0 c0
    pub runs_before : HoldsRunBefore now t0 c0
    pub few : computed ≤ 4294967296 * t0 + c0
    pub fits : c0 < 4294967296
    pub slots : now.slots ≡ old.slots
    pub horizon : now.horizon ≡ old.horizon
    pub rises : old.clock ≤ now.clock
    pub clock : old.clock ≡ 2 ^ 64 - 1 → now.clock ≡ 2 ^ 64 - 1

  -- a pass stopped at some cell, or before all, and has settled none of a cycle or behind it
  pub record StopsBefore (end : ℕ) (old now : Seen State Slots) (computed : ℕ) : Type 0 where
    pub cycle : ℕ
    pub component : ℕ
    pub at : IsAt old now cycle component computed
    pub before : AtOrAfter cycle component end 0

-- how many cells were computed before the fault
abbrev pub computed_of : SettleFault → ℕ
computed_of (ClockSpent computed) = computed
computed_of (Memory computed) = computed

-- the fault is for want of a later clock
abbrev pub IsClockSpent : SettleFault → Type 0
IsClockSpent (ClockSpent computed) = Unit {0}
IsClockSpent (Memory computed) = ⊥
