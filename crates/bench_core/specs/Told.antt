-- What is said of the run of a project at a version.
use Rattle.std.specs.Prelude.{◌≡◌, ◌≢◌, ℕ, None, Ok, Err}
use Rattle.cell_table.specs.declared.given.SettleFault.{SettleFault}
use Rattle.cell_table.specs.declared.given.SettleFault.TheVariants as settle
use Rattle.project_book.specs.Project.{Project}
use Rattle.project_book.specs.Edits.{accepts}
use Rattle.project_book.specs.declared.edit.Edit.{Edit}
use Rattle.project_book.specs.declared.fault.EditFault.{EditFault}
use Rattle.project_book.specs.declared.fault.EditFault.TheVariants.{ClockSpent, Memory}
use Rattle.run_queries.specs.Queries.{bad_query, reach}
use Rattle.run_queries.specs.Answers.{answer}
use Rattle.run_queries.specs.declared.query.Query.{Query}
use Rattle.run_queries.specs.declared.query.Query.TheVariants.{Reply, Order}
use Rattle.run_queries.specs.declared.query.Reach.{Reach}
use Rattle.run_queries.specs.declared.query.Reach.TheVariants.{Nothing}
use Rattle.run_queries.specs.declared.body.Body.{Body}
use Rattle.bench_core.specs.declared.told.Told.{Told}
use Rattle.bench_core.specs.declared.told.Told.TheVariants as told
use Rattle.bench_core.specs.declared.asked.Asked.{Asked}
use Rattle.bench_core.specs.declared.asked.Asked.TheVariants as asked
use Rattle.bench_core.specs.Shown.{Shown, project_of, version_of}
use Rattle.bench_core.specs.Asks.{AsksAs}

-- there are such cells
abbrev pub Looks : Reach → Type 0
Looks Nothing = ⊥
Looks _ = Unit {0}

-- a query that a spent clock may keep from its answer: its own numbers give no reason against it, it waits for cells, and it is
-- no order, which is read from a run of its own where cells are due
abbrev pub MayFindSpent : Project → Query → Type 0
MayFindSpent P (Order a) = ⊥
MayFindSpent P q = (bad_query P q ≡ None) × Looks (reach P q)

-- what is told of a query at version v: an answer is that of the run of P, simulated from cycle 0, and a refusal is by P
-- too; a spent clock comes only where the query may find it so, and want of memory only where the query's own numbers give no
-- reason against it
abbrev pub TellsAt : Project → ℕ → Query → Told → Type 0
TellsAt P v q (told.Answer version body) = (version ≡ v) × (answer P q ≡ Ok body)
TellsAt P v q (told.BadQuery n) = answer P q ≡ Err n
TellsAt P v q told.ClockSpent = MayFindSpent P q
TellsAt P v q told.Memory = bad_query P q ≡ None

-- the same of what is answered at once; at least one cell is waited for
abbrev pub AnswersAt : Project → ℕ → Query → Asked → Type 0
AnswersAt P v q (asked.Answer version body) = (version ≡ v) × (answer P q ≡ Ok body)
AnswersAt P v q (asked.BadQuery n) = answer P q ≡ Err n
AnswersAt P v q (asked.Pending n) = (bad_query P q ≡ None) × (n ≢ 0)
AnswersAt P v q asked.Memory = bad_query P q ≡ None

-- a refusal is the first fault that applies; a spent clock and want of memory refuse only what the project accepts
abbrev pub RefusesAt : Project → ℕ → Edit → EditFault → Type 0
RefusesAt P v e ClockSpent = accepts P v e ≡ Ok tt
RefusesAt P v e Memory = accepts P v e ≡ Ok tt
RefusesAt P v e fault = accepts P v e ≡ Err fault

-- what is told where settling met this fault
abbrev pub told_at_fault : SettleFault → Told
told_at_fault (settle.ClockSpent n) = told.ClockSpent
told_at_fault (settle.Memory n) = told.Memory

-- an answer of a bench that was settled for the query: what the one that is left is asked; but a reply and an order may be told
-- while cells are due that they don't look at, and are those of the run
abbrev pub AnswersAsked : Shown → Query → ℕ → Body → Type 0
AnswersAsked b (Reply p n) version body = (version ≡ version_of b) × (answer (project_of b) (Reply p n) ≡ Ok body)
AnswersAsked b (Order a) version body = (version ≡ version_of b) × (answer (project_of b) (Order a) ≡ Ok body)
AnswersAsked b q version body = AsksAs b q (asked.Answer version body)

-- what is told by a bench that was settled for the query, by the one that is left; a spent clock only where the query may find it
-- so, and want of memory only where its own numbers give no reason against it
abbrev pub TellsAsked : Shown → Query → Told → Type 0
TellsAsked b q (told.Answer version body) = AnswersAsked b q version body
TellsAsked b q (told.BadQuery n) = AsksAs b q (asked.BadQuery n)
TellsAsked b q told.ClockSpent = MayFindSpent (project_of b) q
TellsAsked b q told.Memory = bad_query (project_of b) q ≡ None
