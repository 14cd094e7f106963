-- What becomes of a bench that is settled whole.
use Rattle.std.specs.Prelude.{◌≡◌, ◌-◌, ◌^◌, ◌≤◌, IfOk, IfErr, OnOk, List, Result}
use Rattle.cell_table.specs.Events.{Event as TableEvent}
use Rattle.cell_table.specs.Settling.{IsSettled, IsSpent, computed_of, IsClockSpent}
use Rattle.cell_table.specs.declared.given.Settled.{Settled}
use Rattle.cell_table.specs.declared.given.SettleFault.{SettleFault}
use Rattle.machine_cells.specs.declared.state.MachineState.{MachineState}
use Rattle.machine_cells.specs.GridRules.{rp3_rules}
use Rattle.project_book.specs.Project.{Project}
use Rattle.project_book.specs.declared.slot.Slot.{Slot}
use Rattle.run_queries.specs.declared.query.Query.{Query}
use Rattle.bench_core.specs.Later.{IsLater}
use Rattle.bench_core.specs.Shown.{Shown}
use Rattle.bench_core.specs.Asks.{pending}
use Rattle.bench_core.specs.Events.{Event, Opening}
use Rattle.bench_core.specs.Stands.{Stands}
use Rattle.bench_core.specs.Answers.{Settles, SettlesFirst}

-- the clauses of `Bench::settle`, word for word
pub record IsSettledAs (b next : Shown) (r : Result Settled SettleFault) : Type 0 where
  pub headline_settles : IfOk r (λ s. (done : List (TableEvent MachineState Project Slot)) × ((o : Opening) (h : List Event) → Stands o b h → Settles o h next done s.computed))
  pub after_fault : IfErr r (λ f. (done : List (TableEvent MachineState Project Slot)) × ((o : Opening) (h : List Event) → Stands o b h → SettlesFirst o h next done (computed_of f)))
  pub settled : OnOk r (IsSettled rp3_rules next.table)
  pub ready : OnOk r ((query : Query) → pending next query ≡ 0)
  pub later : IsLater b next
  pub spent : IfErr r (λ f. IsClockSpent f → next.table.clock ≡ 2 ^ 64 - 1)
  pub differs : IfErr r (λ f. IsClockSpent f → IsSpent rp3_rules next.table 0 0)
