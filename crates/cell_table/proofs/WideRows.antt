-- Cells before a cycle before which none is due.
use Rattle.std.proofs.Common.{◌≡◌, ℕ, ◌-◌, ◌<◌, ◌≤◌, arith, Some}
use Rattle.grid_law.specs.Rules.{Rules, Laws}
use Rattle.grid_law.specs.Run.{run}
use Rattle.due_cells.specs.Seen.{Seen, held_at}
use Rattle.cell_table.specs.Cells.{IsThere}
use Rattle.cell_table.specs.Consistent.{IsTable}
use Rattle.cell_table.specs.Settling.{NoneDueBefore}
use Rattle.cell_table.proofs.Passes.{runs_here}

module _ {State Slots Slot : Type 0} (R : Rules State Slots Slot) (laws : Laws R) (v : Seen State Slots) (table : IsTable R v.slots v.horizon v.rows) (t : ℕ) (none : NoneDueBefore R v t 0) where
  -- a cell of an earlier cycle holds the run
  pub holds_earlier : (u c : ℕ) → IsThere R v u c → u < t → (held_at v.rows u c).state ≡ Some (run R v.slots u c)
  holds_earlier u c there h = runs_here R laws v table t none u c there (omega (arith, h), λ e. absurd (omega (arith, h, e)))

  -- all cells of the cycle before hold the run
  pub holds_before : t ≤ v.horizon → 0 < t → (c : ℕ) → c < R.components v.slots → (held_at v.rows (t - 1) c).state ≡ Some (run R v.slots (t - 1) c)
  holds_before there later c h = holds_earlier (t - 1) c (record { cycle = omega (arith, there); component = h }) (omega (arith, later))
