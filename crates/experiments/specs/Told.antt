-- Why a query is told nothing, and an edit refused.
use Rattle.std.specs.Prelude.{◌≡◌, ◌⊎◌, ℕ, ◌-◌, ◌^◌, None, Ok, Err}
use Rattle.project_book.specs.declared.edit.Edit.{Edit as AnyEdit}
use Rattle.project_book.specs.declared.fault.EditFault.TheVariants as edit_fault
use Rattle.project_book.specs.Project.{Project}
use Rattle.run_queries.specs.declared.query.Query.{Query as AnyQuery}
use Rattle.run_queries.specs.Answers.{answer}
use Rattle.run_queries.specs.Queries.{bad_query}
use Rattle.bench_core.specs.Shown.{Shown}
use Rattle.bench_core.specs.Edits.{admits}
use Rattle.experiments.specs.declared.fault.Fault.{Fault}
use Rattle.experiments.specs.declared.fault.Fault.TheVariants.{Memory, Clock, Query, Load, Edit}

-- a clock is at its last value
abbrev pub IsSpent : ℕ → Type 0
IsSpent clock = clock ≡ 2 ^ 64 - 1

-- a query is refused with the run's own reason against it; want of memory and a spent clock come only behind the reasons that
-- its numbers alone give
abbrev pub IsReason : ℕ → Project → AnyQuery → Fault → Type 0
IsReason clock P q (Query n) = answer P q ≡ Err n
IsReason clock P q Memory = bad_query P q ≡ None
IsReason clock P q Clock = (bad_query P q ≡ None) × IsSpent clock
IsReason clock P q Load = ⊥
IsReason clock P q (Edit fault) = ⊥

-- nothing is told to some queries, since there is no memory, or the clock is spent
abbrev pub IsWant : ℕ → Fault → Type 0
IsWant clock Memory = Unit {0}
IsWant clock Clock = IsSpent clock
IsWant clock _ = ⊥

-- an edit is refused with the bench's own reason against it, or for want of memory where there is none
abbrev pub IsEditReason : Shown → AnyEdit → Fault → Type 0
IsEditReason b e (Edit fault) = (admits b e ≡ Err fault) ⊎ ((fault ≡ edit_fault.Memory) × (admits b e ≡ Ok tt))
IsEditReason b e _ = ⊥
