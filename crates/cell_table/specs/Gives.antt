-- What a returned result does to a table.
use Rattle.std.specs.Prelude.{◌≡◌, ◌≢◌, ◌↔◌, ℕ, ◌+◌, ◌-◌, ◌^◌, ◌<◌, if◌then◌else◌, Bool, true, false, Some}
use Rattle.grid_law.specs.Rules.{Rules, Agrees}
use Rattle.cell_table.specs.declared.given.Given.{Given}
use Rattle.cell_table.specs.declared.given.Given.TheVariants.{Gone, NotDue, Overtaken, Foreign, ClockSpent, Memory, Stored}
use Rattle.due_cells.specs.Seen.{Seen, held_at}
use Rattle.due_cells.specs.Inputs.{inputs_of}
use Rattle.due_cells.specs.Stores.{held_after}
use Rattle.cell_table.specs.Cells.{IsThere}
use Rattle.cell_table.specs.Claims.{Claimed, Computed}

module _ {State Slots Slot : Type 0} (R : Rules State Slots Slot) where
  -- the new table has x for (t, c)
  pub record IsAfterStore (old new : Seen State Slots) (t c : ℕ) (x : State) (changed : Bool) : Type 0 where
    pub changes : (changed ≡ false) ↔ ((held_at old.rows t c).state ≡ Some x)
    pub slots : new.slots ≡ old.slots
    pub horizon : new.horizon ≡ old.horizon
    pub clock : new.clock ≡ (if changed then old.clock + 1 else old.clock)
    pub cells : (t1 c1 : ℕ) → IsThere R old t1 c1 → held_at new.rows t1 c1 ≡ held_after R old.slots old.rows t c x changed new.clock t1 c1

  -- a state was stored for the cell, which is there
  pub record IsStored (old new : Seen State Slots) (t c : ℕ) : Type 0 where
    pub there : IsThere R old t c
    pub state : State
    pub changed : Bool
    pub after : IsAfterStore old new t c state changed

  -- the slots and the horizon stay, and each cell holds the state that it held
  pub record HoldsSame (old new : Seen State Slots) : Type 0 where
    pub slots : new.slots ≡ old.slots
    pub horizon : new.horizon ≡ old.horizon
    pub states : (t c : ℕ) → IsThere R old t c → (held_at new.rows t c).state ≡ (held_at old.rows t c).state

  -- what the claim was computed from is what is there now
  pub record IsPresent (v : Seen State Slots) (claim : Claimed State Slots) : Type 0 where
    pub inputs : inputs_of R v.slots v.rows claim.cell.cycle claim.cell.component ≡ Some claim.near
    pub agrees : Agrees R claim.slots v.slots claim.near claim.cell.component

  -- the cell is there, due, and of the claim's version
  pub record IsOpen (v : Seen State Slots) (claim : Claimed State Slots) : Type 0 where
    pub there : IsThere R v claim.cell.cycle claim.cell.component
    pub due : (held_at v.rows claim.cell.cycle claim.cell.component).is_due ≡ true
    pub version : (held_at v.rows claim.cell.cycle claim.cell.component).version ≡ claim.version

  -- the answers, of which one comes exactly where those before it don't apply
  abbrev pub GivesAs : Seen State Slots → Computed State Slots → Given (Computed State Slots) → Seen State Slots → Type 0
  GivesAs old done Gone new = (IsThere R old done.claim.cell.cycle done.claim.cell.component → ⊥) × (new ≡ old)
  GivesAs old done NotDue new =
      IsThere R old done.claim.cell.cycle done.claim.cell.component
      × ((held_at old.rows done.claim.cell.cycle done.claim.cell.component).is_due ≡ false)
      × (new ≡ old)
  GivesAs old done Overtaken new =
      IsThere R old done.claim.cell.cycle done.claim.cell.component
      × ((held_at old.rows done.claim.cell.cycle done.claim.cell.component).is_due ≡ true)
      × ((held_at old.rows done.claim.cell.cycle done.claim.cell.component).version ≢ done.claim.version)
      × (new ≡ old)
  GivesAs old done Foreign new = IsOpen old done.claim × (IsPresent old done.claim → ⊥) × (new ≡ old)
  GivesAs old done (ClockSpent back) new =
      (back ≡ done)
      × IsOpen old done.claim
      × IsPresent old done.claim
      × (old.clock ≡ 2 ^ 64 - 1)
      × ((held_at old.rows done.claim.cell.cycle done.claim.cell.component).state ≢ Some done.state)
      × (new ≡ old)
  GivesAs old done (Memory back) new =
      (back ≡ done)
      × IsOpen old done.claim
      × IsPresent old done.claim
      × (old.clock < 2 ^ 64 - 1)
      × ((held_at old.rows done.claim.cell.cycle done.claim.cell.component).state ≢ Some done.state)
      × (new ≡ old)
  GivesAs old done (Stored changed) new =
      IsOpen old done.claim
      × IsPresent old done.claim
      × IsAfterStore old new done.claim.cell.cycle done.claim.cell.component done.state changed
      × (changed ≡ true → old.clock < 2 ^ 64 - 1)
