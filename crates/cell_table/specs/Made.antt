-- A claim is made at the place of its event.
use Rattle.std.specs.Prelude.{◌≡◌, ℕ, ◌<◌, ◌≤◌, true, Some, List, ◌∷◌, ◌++◌, length}
use Rattle.grid_law.specs.Rules.{Rules}
use Rattle.cell_table.specs.Claims.{Claimed}
use Rattle.cell_table.specs.Events.{Event, Claims, Start, slots_of, horizon_of}
use Rattle.cell_table.specs.Values.{near_vals}
use Rattle.cell_table.specs.Due.{due}
use Rattle.cell_table.specs.Clock.{version_of}

module _ {State Slots Slot : Type 0} (R : Rules State Slots Slot) (o : Start Slots) where
  -- event n is the claim of its cell, which was there and due then, and the claim holds the cell's version then,
  -- the slots then and the near values then
  pub record Made (claim : Claimed State Slots) (h : List (Event State Slots Slot)) (n : ℕ) : Type 0 where
    pub later : List (Event State Slots Slot)
    pub earlier : List (Event State Slots Slot)
    pub splits : h ≡ later ++ Claims claim.cell.cycle claim.cell.component ∷ earlier
    pub place : n ≡ length earlier
    pub cycle : claim.cell.cycle ≤ horizon_of o earlier
    pub component : claim.cell.component < R.components (slots_of o earlier)
    pub was_due : due R o earlier claim.cell.cycle claim.cell.component ≡ true
    pub version : claim.version ≡ version_of R o earlier claim.cell.cycle claim.cell.component
    pub slots : claim.slots ≡ slots_of o earlier
    pub near : near_vals R o earlier claim.cell.cycle claim.cell.component ≡ Some claim.near
