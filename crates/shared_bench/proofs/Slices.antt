-- The next slice of a bench, and a bench that is settled to its end.
use Rattle.std.proofs.Common.{◌≡◌, ℕ, ◌<◌, ◌≤◌, arith, subst, List, Some, Ok, Err}
use Rattle.std.proofs.lemmas.Nat.{pow_pos}
use Rattle.cell_states.specs.declared.cell.Cell.{Cell}
use Rattle.cell_table.specs.declared.given.SettleFault.{SettleFault}
use Rattle.cell_table.specs.Claims.{NoneDue}
use Rattle.cell_table.specs.Events.{Event as TableEvent}
use Rattle.cell_table.specs.Settling.{IsNextDue, NoneDueFrom, IsSpent, IsClockSpent}
use Rattle.omega_net.specs.Numbers.{components}
use Rattle.machine_cells.specs.declared.state.MachineState.{MachineState}
use Rattle.machine_cells.specs.GridRules.{rp3_rules}
use Rattle.project_book.specs.Project.{Project}
use Rattle.project_book.specs.declared.slot.Slot.{Slot}
use Rattle.bench_core.specs.Shown.{Shown, project_of}
use Rattle.bench_core.specs.Events.{Event, Opening}
use Rattle.bench_core.specs.Stands.{Stands}
use Rattle.bench_core.specs.Answers.{SettlesTo, SettlesFirstTo}
use Rattle.bench_core.specs.Settled.{IsSettledFrom, IsPartlySettledFrom}
use Rattle.shared_bench.specs.Slices.{slice_end, IsNextSlice, SlicesAs}

pub some_component : (k : ℕ) → 0 < components k
some_component k = let p = pow_pos k in omega arith

-- behind the first of all cells are all
pub none_due : (d : Shown) → NoneDueFrom rp3_rules d.table 0 0 → NoneDue rp3_rules d.table
none_due d none t c there = none t c there (omega arith, λ first. omega arith)

pub next_slice : (d : Shown) (cells last : ℕ) (first : Cell) → IsNextDue rp3_rules d.table 0 0 first → last ≡ slice_end (project_of d) cells first.cycle → IsNextSlice d cells last
next_slice d cells last first due ends = record { first = first; due = due; ends = ends }

-- what settling the bench to the end of its next slice tells
module _ (d met next : Shown) (same : met ≡ d) (cells last n : ℕ) (slice : IsNextSlice d cells last) where
  pub slice_settled : ((done : List (TableEvent MachineState Project Slot)) × ((o : Opening) (h : List Event) → Stands o met h → SettlesTo last o h next done n))
      → SlicesAs d cells (Ok (Some last)) next
  slice_settled to = (slice, subst (λ (b : Shown). IsSettledFrom (Some last) b next) same (to.0, n, to.1))

  pub slice_stopped : ((done : List (TableEvent MachineState Project Slot)) × ((o : Opening) (h : List Event) → Stands o met h → SettlesFirstTo last o h next done n))
      → (fault : SettleFault) → (IsClockSpent fault → (spent : IsSpent rp3_rules next.table 0 0) × (spent.cell.cycle ≤ last))
      → SlicesAs d cells (Err fault) next
  slice_stopped to fault spent = (last, slice, subst (λ (b : Shown). IsPartlySettledFrom (Some last) b next) same (to.0, n, to.1), spent)
