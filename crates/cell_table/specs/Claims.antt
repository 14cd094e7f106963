-- Claims: which cell can be claimed, which is the next one, and what a claim and its result hold.
use Rattle.std.specs.Prelude.{◌≡◌, ◌⊎◌, ℕ, ◌<◌, ◌≤◌, ◌&&◌, Bool, true, false, Some, List, is_some}
use Rattle.cell_states.specs.declared.cell.Cell.{Cell}
use Rattle.grid_law.specs.Rules.{Rules, result_of}
use Rattle.due_cells.specs.Seen.{Seen, held_at}
use Rattle.due_cells.specs.Inputs.{inputs_of}
use Rattle.cell_table.specs.Cells.{IsThere, AtOrAfter, Before}

-- a cell, its version then, and the slots and near states that it is computed from
pub record Claimed (State Slots : Type 0) : Type 0 where
  pub cell : Cell
  pub version : ℕ
  pub slots : Slots
  pub near : List State

-- a claim, and the state that was computed from it
pub record Computed (State Slots : Type 0) : Type 0 where
  pub claim : Claimed State Slots
  pub state : State

module _ {State Slots Slot : Type 0} (R : Rules State Slots Slot) where
  -- the state that a claim's own slots and states give
  abbrev pub result_for : Claimed State Slots → State
  result_for claim = result_of R claim.slots claim.near claim.cell.component

  -- the cell is due, and the near cells one cycle earlier all hold a state
  abbrev pub is_claimable : Seen State Slots → ℕ → ℕ → Bool
  is_claimable v t c = (held_at v.rows t c).is_due && is_some (inputs_of R v.slots v.rows t c)

  -- no cell is due
  abbrev pub NoneDue : Seen State Slots → Type 0
  NoneDue v = (t c : ℕ) → IsThere R v t c → (held_at v.rows t c).is_due ≡ false

  -- no cell at or after that one can be claimed
  abbrev pub NoneFrom : Seen State Slots → ℕ → ℕ → Type 0
  NoneFrom v t0 c0 = (t c : ℕ) → IsThere R v t c → AtOrAfter t0 c0 t c → is_claimable v t c ≡ false

  -- the first component of a cycle, at or after that one, whose cell can be claimed
  pub record IsNextInRow (v : Seen State Slots) (t c0 c : ℕ) : Type 0 where
    pub there : c < R.components v.slots
    pub claimable : is_claimable v t c ≡ true
    pub after : c0 ≤ c
    pub none_between : (k : ℕ) → c0 ≤ k → k < c → is_claimable v t k ≡ false

  -- the first cell at or after that one that can be claimed
  pub record IsNext (v : Seen State Slots) (t0 c0 : ℕ) (cell : Cell) : Type 0 where
    pub there : IsThere R v cell.cycle cell.component
    pub claimable : is_claimable v cell.cycle cell.component ≡ true
    pub after : AtOrAfter t0 c0 cell.cycle cell.component
    pub none_between : (t c : ℕ) → IsThere R v t c → AtOrAfter t0 c0 t c → Before t c cell.cycle cell.component → is_claimable v t c ≡ false

  -- the first at or after that one, wrapping round once
  abbrev pub IsNextRound : Seen State Slots → ℕ → ℕ → Cell → Type 0
  IsNextRound v t0 c0 cell = IsNext v t0 c0 cell ⊎ (NoneFrom v t0 c0 × IsNext v 0 0 cell)

  -- a claim of the cell holds its version, the present slots and the present near states
  pub record IsClaim (v : Seen State Slots) (claim : Claimed State Slots) : Type 0 where
    pub version : claim.version ≡ (held_at v.rows claim.cell.cycle claim.cell.component).version
    pub slots : claim.slots ≡ v.slots
    pub near : inputs_of R v.slots v.rows claim.cell.cycle claim.cell.component ≡ Some claim.near
