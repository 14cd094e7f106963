-- What becomes of a bench that is settled as far as the answer to a query looks, and asked it.
use Rattle.std.specs.Prelude.{◌≡◌, ◌⊎◌, ℕ, ◌+◌, ◌*◌, ◌/◌, nat_le, Bool, true, false, Option, None, Some, Result, Ok, Err}
use Rattle.due_cells.specs.Seen.{due_at}
use Rattle.cell_table.specs.declared.given.SettleFault.{SettleFault}
use Rattle.omega_net.specs.Numbers.{components}
use Rattle.run_queries.specs.Queries.{bad_query}
use Rattle.run_queries.specs.declared.query.Query.{Query}
use Rattle.run_queries.specs.declared.query.Query.TheVariants.{Reply, Order}
use Rattle.run_queries.specs.declared.query.Reach.TheVariants.{To}
use Rattle.run_queries.specs.declared.body.Body.TheVariants.{Reply as Replied}
use Rattle.run_queries.specs.declared.body.Received.{Received}
use Rattle.bench_core.specs.declared.told.Told.{Told}
use Rattle.bench_core.specs.declared.told.Told.TheVariants as told
use Rattle.bench_core.specs.Shown.{Shown, project_of}
use Rattle.bench_core.specs.Asks.{pending, waits_for}
use Rattle.bench_core.specs.Told.{told_at_fault}
use Rattle.bench_core.specs.Settled.{IsPartlySettledFrom, SettlesOnceAs}
use Rattle.bench_core.specs.Seeking.{begins_at, SeeksAs}

-- what is told comes of what was sought: the reply that was found; after a search that found none anything but a spent clock;
-- the fault that it met
abbrev pub ComesOf : Result (Option Received) SettleFault → Told → Type 0
ComesOf (Ok (Some r)) (told.Answer version body) = body ≡ Replied (Some r)
ComesOf (Ok (Some r)) _ = ⊥
ComesOf (Ok None) told.ClockSpent = ⊥
ComesOf (Ok None) _ = Unit {0}
ComesOf (Err fault) t = t ≡ told_at_fault fault

-- a query for which the bench is settled once, to the last cycle of the cells that it waits for
abbrev pub IsOnce : Query → Type 0
IsOnce (Reply p n) = ⊥
IsOnce (Order a) = ⊥
IsOnce q = Unit {0}

-- no cell was due that the answer waits for, and nothing was changed; a spent clock isn't told then
abbrev pub StaysAs : Query → Told → Shown → Shown → Type 0
StaysAs q told.ClockSpent d next = ⊥
StaysAs q t d next = (pending d q ≡ 0) × (next ≡ d)

-- a bench that was asked for a reply while cells were due: it was sought from where the states held told it on
pub record SettlesReplyAs (p n : ℕ) (t : Told) (d next : Shown) : Type 0 where
  pub begin : ℕ
  pub sought : Result (Option Received) SettleFault
  pub begins : begin ≡ begins_at d p n
  pub seeks : SeeksAs p n begin d next sought
  pub comes : ComesOf sought t

-- where its own numbers give a reason against the query nothing is settled, and nothing where no cell is due
abbrev pub SettlesReplyUnless : Option ℕ → ℕ → ℕ → Told → Shown → Shown → Type 0
SettlesReplyUnless (Some k) p n t d next = next ≡ d
SettlesReplyUnless None p n t d next = StaysAs (Reply p n) t d next ⊎ SettlesReplyAs p n t d next

-- a cell that is settled costs about as much as so many cells of a run that keeps none
abbrev pub run_cells : ℕ
run_cells = 6

-- so few cells are due that settling them costs no more than a run of the whole project
abbrev pub has_few_due : Shown → Bool
has_few_due d = nat_le (waits_for (project_of d) (due_at d.table.rows) (To (project_of d).horizon)) (((project_of d).horizon + 1) * components (project_of d).k / run_cells)

-- where few cells are due the bench is settled, or at a fault in part; where many are, nothing of it is changed
abbrev pub SettlesFew : Bool → Shown → Shown → Type 0
SettlesFew true d next = IsPartlySettledFrom (Some (project_of d).horizon) d next
SettlesFew false d next = next ≡ d

-- a bench that was asked for an order, which is read from it or from a run of its own; a spent clock isn't told
abbrev pub SettlesOrderAs : Told → Shown → Shown → Type 0
SettlesOrderAs told.ClockSpent d next = ⊥
SettlesOrderAs t d next = SettlesFew (has_few_due d) d next

-- where its own numbers give a reason against the query nothing is settled
abbrev pub SettlesOrderUnless : Option ℕ → Told → Shown → Shown → Type 0
SettlesOrderUnless (Some k) t d next = next ≡ d
SettlesOrderUnless None t d next = SettlesOrderAs t d next

-- a reply is sought slice by slice, for an order what is due is settled where it is little, and for every other query the bench is
-- settled once
abbrev pub SettlesAs : Query → Told → Shown → Shown → Type 0
SettlesAs (Reply p n) t d next = SettlesReplyUnless (bad_query (project_of d) (Reply p n)) p n t d next
SettlesAs (Order a) t d next = SettlesOrderUnless (bad_query (project_of d) (Order a)) t d next
SettlesAs q t d next = SettlesOnceAs q t d next
