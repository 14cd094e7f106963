-- What calls of a bench do, in the words of its events.
use Rattle.std.specs.Prelude.{◌≡◌, ℕ, ◌+◌, if◌then◌else◌, List, [], ◌∷◌, Ok}
use Rattle.cell_table.specs.declared.given.Given.{Given}
use Rattle.cell_table.specs.declared.given.Given.TheVariants.{Stored as GivenStored}
use Rattle.cell_table.specs.Claims.{Claimed as ClaimOf, Computed}
use Rattle.cell_table.specs.Events.{Event as TableEvent, Edits, Claims, Stores}
use Rattle.cell_table.specs.Due.{due}
use Rattle.cell_table.specs.Made.{Made as MadeOnTable}
use Rattle.cell_table.specs.Answers.{AnswersMade as AnswersOnTable}
use Rattle.cell_table.specs.Cost.{Costs as CostsOnTable, Settles as SettlesTable, SettlesTo as SettlesTableTo, SettlesFirst as SettlesTableFirst, SettlesFirstTo as SettlesTableFirstTo}
use Rattle.machine_cells.specs.declared.state.MachineState.{MachineState}
use Rattle.machine_cells.specs.GridRules.{rp3_rules}
use Rattle.project_book.specs.Project.{Project}
use Rattle.project_book.specs.declared.slot.Slot.{Slot}
use Rattle.run_queries.specs.declared.query.Query.{Query}
use Rattle.run_queries.specs.Answers.{answer}
use Rattle.bench_core.specs.declared.asked.Asked.{Asked}
use Rattle.bench_core.specs.declared.asked.Asked.TheVariants.{Answer}
use Rattle.bench_core.specs.Shown.{Shown}
use Rattle.bench_core.specs.Events.{Event, Stored, Opening, version_after, project_after, on_table, table_start}
use Rattle.bench_core.specs.Stands.{Stands}
use Rattle.bench_core.specs.Asks.{waits, asked_at, IsOrWants}

-- a claim was made at place n: it is that of event n, and holds its cell's version, the project and the near values then
abbrev pub Made : Opening → ClaimOf MachineState Project → List Event → ℕ → Type 0
Made o claim h n = MadeOnTable rp3_rules (table_start o) claim (on_table o h) n

-- the cases in which a result whose claim was made at place n gets each answer
abbrev pub AnswersMade : Opening → List Event → ℕ → Computed MachineState Project → Given (Computed MachineState Project) → Type 0
AnswersMade o h n done given = AnswersOnTable rp3_rules (table_start o) (on_table o h) n done given

-- the events after a result was given: one more where it was stored
abbrev pub after_give : Given (Computed MachineState Project) → Computed MachineState Project → List Event → List Event
after_give (GivenStored changed) done h = Stored done.claim.cell.cycle done.claim.cell.component done.state changed ∷ h
after_give _ done h = h

-- the clock after a result was given: one more where another state was stored
abbrev pub clock_given : Given (Computed MachineState Project) → ℕ → ℕ
clock_given (GivenStored changed) clock = if changed then clock + 1 else clock
clock_given _ clock = clock

-- the events after some stores
abbrev pub after_stores : List (TableEvent MachineState Project Slot) → List Event → List Event
after_stores [] h = h
after_stores (Stores t c x changed ∷ done) h = Stored t c x changed ∷ after_stores done h
after_stores (Edits next listed to ∷ done) h = after_stores done h
after_stores (Claims t c ∷ done) h = after_stores done h

-- the bench stands for h and for these stores after it, which are n, in order, and of the first cells that cost
pub record SettlesFirst (o : Opening) (h : List Event) (b : Shown) (done : List (TableEvent MachineState Project Slot)) (n : ℕ) : Type 0 where
  pub stands : Stands o b (after_stores done h)
  pub table : SettlesTableFirst rp3_rules (table_start o) (on_table o h) b.table done n

-- and these are all of them
pub record Settles (o : Opening) (h : List Event) (b : Shown) (done : List (TableEvent MachineState Project Slot)) (n : ℕ) : Type 0 where
  pub stands : Stands o b (after_stores done h)
  pub table : SettlesTable rp3_rules (table_start o) (on_table o h) b.table done n

-- the same up to a cycle
pub record SettlesFirstTo (last : ℕ) (o : Opening) (h : List Event) (b : Shown) (done : List (TableEvent MachineState Project Slot)) (n : ℕ) : Type 0 where
  pub stands : Stands o b (after_stores done h)
  pub table : SettlesTableFirstTo rp3_rules (table_start o) last (on_table o h) b.table done n

pub record SettlesTo (last : ℕ) (o : Opening) (h : List Event) (b : Shown) (done : List (TableEvent MachineState Project Slot)) (n : ℕ) : Type 0 where
  pub stands : Stands o b (after_stores done h)
  pub table : SettlesTableTo rp3_rules (table_start o) last (on_table o h) b.table done n

-- a cell costs a computation: it is due, or has a near cell one cycle earlier whose value isn't that of the run
abbrev pub Costs : Opening → List Event → ℕ → ℕ → Type 0
Costs o h t c = CostsOnTable rp3_rules (table_start o) (on_table o h) t c

-- an answer is that of the project after the events, at its version
abbrev pub AnswersRun : Opening → List Event → Query → Asked → Type 0
AnswersRun o h q (Answer version body) = (version ≡ version_after h) × (answer (project_after o h) q ≡ Ok body)
AnswersRun o h q _ = Unit {0}

-- how many cells that are due after the events the answer waits for
abbrev pub pending_after : Opening → List Event → Query → ℕ
pending_after o h q = waits (project_after o h) (due rp3_rules (table_start o) (on_table o h)) q

-- the same for every answer: a reason against the query, a number of due cells, or what the run says, each by the events
-- alone; want of memory only in the place of the last two
abbrev pub AsksRun : Opening → List Event → Query → Asked → Type 0
AsksRun o h q result = IsOrWants (asked_at (project_after o h) (version_after h) (pending_after o h q) q) result
