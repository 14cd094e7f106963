-- What becomes of a pass by work, and what is counted.
use Rattle.std.specs.Prelude.{◌≡◌, ℕ, ◌+◌, ◌-◌, ◌^◌, ◌<◌, ◌≤◌, Bool, true, false, min, List, [], ◌∷◌, ◌++◌, length, Option, None, Some, Result, Ok, Err}
use Rattle.cell_table.specs.Claims.{Computed, NoneDue}
use Rattle.cell_table.specs.declared.given.Given.{Given}
use Rattle.cell_table.specs.declared.given.Given.TheVariants as given
use Rattle.cell_table.specs.declared.given.StoreFault.{StoreFault}
use Rattle.cell_table.specs.declared.given.StoreFault.TheVariants as store
use Rattle.cell_table.specs.declared.given.SettleFault.{SettleFault}
use Rattle.cell_table.specs.declared.given.SettleFault.TheVariants as settle
use Rattle.machine_cells.specs.declared.state.MachineState.{MachineState}
use Rattle.machine_cells.specs.GridRules.{rp3_rules}
use Rattle.project_book.specs.Project.{Project}
use Rattle.bench_core.specs.Shown.{Shown}
use Rattle.shared_bench.specs.Answers.{IsInTurn}
use Rattle.shared_bench.specs.Known.{Known, IsLater}
use Rattle.shared_bench.specs.declared.view.Turn.{Turn}
use Rattle.shared_bench.specs.declared.pass.SplitFault.{SplitFault}
use Rattle.shared_bench.specs.declared.pass.SplitFault.TheVariants as split
use Rattle.wave_workers.specs.declared.tally.Came.{Came}
use Rattle.wave_workers.specs.declared.tally.Came.TheVariants.{Idle, Failed, Spent, Refused, Stored, Settled}
use Rattle.wave_workers.specs.declared.worked.WorkFault.{WorkFault}
use Rattle.wave_workers.specs.declared.worked.WorkFault.TheVariants as work

-- the pass has gone on, and has its numbers and its receipts
abbrev pub IsKept : Known → Known → Type 0
IsKept before after = IsLater before after × (after.numbers ≡ before.numbers) × (after.receipts ≡ before.receipts)

-- after the work of so many gates the pass has gone on, with the same receipts; it has one number more for each worker that
-- was started, which only a worker that has ended brings back; without a fault one was started for each gate, and with one
-- fewer were
pub record IsWorked (before after : Known) (gates started : ℕ) (fault : Option WorkFault) : Type 0 where
  pub later : IsLater before after
  pub receipts : after.receipts ≡ before.receipts
  pub more : List ℕ
  pub numbers : after.numbers ≡ before.numbers ++ more
  pub each : length more ≡ started
  pub few : started ≤ gates
  pub all : fault ≡ None → started ≡ gates
  pub not_all : (why : WorkFault) → fault ≡ Some why → started < gates

-- why no further pass was made, as why no further worker was started
abbrev pub unsplit : SplitFault → WorkFault
unsplit split.NoSeat = work.NoSeat
unsplit split.Memory = work.Memory

-- why a cell wasn't stored, as why a table was settled in part
abbrev pub unstored : StoreFault → ℕ → SettleFault
unstored store.ClockSpent computed = settle.ClockSpent computed
unstored store.Memory computed = settle.Memory computed

-- what a turn came to whose result was answered so
abbrev pub came_for : Given (Computed MachineState Project) → Came
came_for (given.Stored changed) = Stored
came_for (given.ClockSpent back) = Spent
came_for given.Gone = Refused
came_for given.NotDue = Refused
came_for given.Overtaken = Refused
came_for given.Foreign = Refused
came_for (given.Memory back) = Refused

-- what a turn came to in which a slice was settled so
abbrev pub came_for_slice : Result (Option ℕ) SettleFault → Came
came_for_slice (Ok (Some last)) = Settled
came_for_slice (Ok None) = Idle
came_for_slice (Err fault) = Failed

-- whether no cell was due, or the next turn would meet the same fault
abbrev pub does_nothing : Came → Bool
does_nothing Idle = true
does_nothing Failed = true
does_nothing Spent = true
does_nothing Refused = false
does_nothing Stored = false
does_nothing Settled = false

-- the pass left this bench in its last turn
abbrev pub HasLeft : Known → Shown → Type 0
HasLeft p d = (earlier : List Turn) × (met : Shown) × (p.turns ≡ earlier ++ record { met = met; left = d } ∷ []) × IsInTurn p d

-- the pass's last turn came to this, and before it the journal had this length: the bench that it left has no shorter one,
-- which is all that the pass has seen, and no due cell where the turn was idle
abbrev pub HasLooked : Known → Came → ℕ → Type 0
HasLooked p came before = (d : Shown) × HasLeft p d × (came ≡ Idle → NoneDue rp3_rules d.table) × (before ≤ length d.journal)

-- how many results a turn has given, and how many of them were stored
abbrev pub given_by : Came → ℕ
given_by Idle = 0
given_by Failed = 0
given_by Spent = 1
given_by Refused = 1
given_by Stored = 1
given_by Settled = 0

abbrev pub stored_by : Came → ℕ
stored_by Idle = 0
stored_by Failed = 0
stored_by Spent = 0
stored_by Refused = 0
stored_by Stored = 1
stored_by Settled = 0

-- how many results with these answers were stored
abbrev pub stored_in : List (Given (Computed MachineState Project)) → ℕ
stored_in [] = 0
stored_in (answer ∷ answers) = stored_by (came_for answer) + stored_in answers

-- a sum that stops at the greatest number of 64 bits
abbrev pub counted : ℕ → ℕ → ℕ
counted a b = min (a + b) (2 ^ 64 - 1)
