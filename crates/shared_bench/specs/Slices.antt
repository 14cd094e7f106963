-- Slices: a bench is settled some cycles further in a turn.
use Rattle.std.specs.Prelude.{◌≡◌, ℕ, ◌+◌, ◌-◌, ◌/◌, min, Option, None, Some, Result, Ok, Err}
use Rattle.cell_states.specs.declared.cell.Cell.{Cell}
use Rattle.cell_table.specs.declared.given.SettleFault.{SettleFault}
use Rattle.cell_table.specs.Claims.{NoneDue}
use Rattle.cell_table.specs.Settling.{IsNextDue, IsClockSpent}
use Rattle.omega_net.specs.Numbers.{components}
use Rattle.machine_cells.specs.GridRules.{rp3_rules}
use Rattle.project_book.specs.Project.{Project}
use Rattle.bench_core.specs.Shown.{Shown, project_of}
use Rattle.bench_core.specs.Settled.{IsSettledFrom, IsPartlySettledFrom, IsSpentTo}

-- the last cycle of a slice that begins at cycle t: it is of as many whole cycles as have so many cells, at least of one, and
-- ends at the horizon
abbrev pub slice_end : Project → ℕ → ℕ → ℕ
slice_end P cells t = min (t + (cells / components P.k - 1)) P.horizon

-- the next slice of a bench ends there: it begins at the cycle of the first due cell
pub record IsNextSlice (d : Shown) (cells last : ℕ) : Type 0 where
  pub first : Cell
  pub due : IsNextDue rp3_rules d.table 0 0 first
  pub ends : last ≡ slice_end (project_of d) cells first.cycle

-- what becomes of a bench whose next slice was to be settled: where no cell is due, nothing; it is settled to the end of its
-- next slice, which is told; a fault leaves it settled in part, a spent clock where the next store would need a later one
abbrev pub SlicesAs : Shown → ℕ → Result (Option ℕ) SettleFault → Shown → Type 0
SlicesAs d cells (Ok None) next = NoneDue rp3_rules d.table × (next ≡ d)
SlicesAs d cells (Ok (Some last)) next = IsNextSlice d cells last × IsSettledFrom (Some last) d next
SlicesAs d cells (Err fault) next =
    (last : ℕ) × IsNextSlice d cells last × IsPartlySettledFrom (Some last) d next × (IsClockSpent fault → IsSpentTo (Some last) next)
