-- A table before and after a settling.
use Rattle.std.specs.Prelude.{◌≡◌, ◌-◌, ◌^◌, ◌≤◌}
use Rattle.due_cells.specs.Seen.{Seen}

-- it has the slots and the horizon that it had, and its clock hasn't fallen; at its last value that stays
pub record IsLater {State Slots : Type 0} (old now : Seen State Slots) : Type 0 where
  pub slots : now.slots ≡ old.slots
  pub horizon : now.horizon ≡ old.horizon
  pub rises : old.clock ≤ now.clock
  pub clock : old.clock ≡ 2 ^ 64 - 1 → now.clock ≡ 2 ^ 64 - 1
