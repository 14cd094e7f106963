-- How far a bench is settled for a query, and what becomes of it.
use Rattle.std.specs.Prelude.{◌≡◌, ℕ, ◌≤◌, List, Option, None, Some}
use Rattle.cell_table.specs.Events.{Event as TableEvent}
use Rattle.cell_table.specs.Settling.{IsSpent}
use Rattle.machine_cells.specs.declared.state.MachineState.{MachineState}
use Rattle.machine_cells.specs.GridRules.{rp3_rules}
use Rattle.project_book.specs.Project.{Project}
use Rattle.project_book.specs.declared.slot.Slot.{Slot}
use Rattle.run_queries.specs.Queries.{bad_query}
use Rattle.run_queries.specs.declared.query.Query.{Query}
use Rattle.bench_core.specs.declared.told.Told.{Told}
use Rattle.bench_core.specs.declared.told.Told.TheVariants as told
use Rattle.bench_core.specs.Shown.{Shown, project_of}
use Rattle.bench_core.specs.Events.{Event, Opening}
use Rattle.bench_core.specs.Stands.{Stands}
use Rattle.bench_core.specs.Asks.{last_cycle}
use Rattle.bench_core.specs.Answers.{SettlesTo, SettlesFirstTo}

-- the last cycle that a bench is settled to for a query: none where the query's own numbers give a reason against it, or
-- where the answer waits for no cell
abbrev pub cycle_unless : Option ℕ → Option ℕ → Option ℕ
cycle_unless (Some n) last = None
cycle_unless None last = last

abbrev pub settled_for : Project → Query → Option ℕ
settled_for P q = cycle_unless (bad_query P q) (last_cycle P q)

-- this bench comes of settling that one to a cycle: whatever events are behind that, it stands for them and the stores of
-- all that cost up to that cycle, after them; it is that one where there is no such cycle
abbrev pub IsSettledFrom : Option ℕ → Shown → Shown → Type 0
IsSettledFrom None d next = next ≡ d
IsSettledFrom (Some last) d next =
    (done : List (TableEvent MachineState Project Slot)) × (n : ℕ) × ((o : Opening) (h : List Event) → Stands o d h → SettlesTo last o h next done n)

-- the same of the stores of the first that cost
abbrev pub IsPartlySettledFrom : Option ℕ → Shown → Shown → Type 0
IsPartlySettledFrom None d next = next ≡ d
IsPartlySettledFrom (Some last) d next =
    (done : List (TableEvent MachineState Project Slot)) × (n : ℕ) × ((o : Opening) (h : List Event) → Stands o d h → SettlesFirstTo last o h next done n)

-- the next store up to that cycle would need a later clock
abbrev pub IsSpentTo : Option ℕ → Shown → Type 0
IsSpentTo None d = ⊥
IsSpentTo (Some last) d = (spent : IsSpent rp3_rules d.table 0 0) × (spent.cell.cycle ≤ last)

-- what becomes of a bench that is settled for a query to this cycle and asked it, by what was told: an answer and a
-- refusal come of one that is settled so far; a spent clock is told where the next store would need a later one
abbrev pub SettlesToAs : Option ℕ → Told → Shown → Shown → Type 0
SettlesToAs last (told.Answer version body) d next = IsSettledFrom last d next
SettlesToAs last (told.BadQuery n) d next = IsSettledFrom last d next
SettlesToAs last told.ClockSpent d next = IsPartlySettledFrom last d next × IsSpentTo last next
SettlesToAs last told.Memory d next = IsPartlySettledFrom last d next

-- the same for a query: it is settled once, to the last cycle that the answer waits for
abbrev pub SettlesOnceAs : Query → Told → Shown → Shown → Type 0
SettlesOnceAs q told d next = SettlesToAs (settled_for (project_of d) q) told d next
