-- A bench that is settled for a query, and what it tells.
use Rattle.std.proofs.Common.{◌≡◌, ℕ, ◌<◌, ◌≤◌, ◌∙◌, sym, ap, subst, refl, arith, List, length, Option, None, Some}
use Rattle.page_map.specs.Pages.{IsPageMap}
use Rattle.omega_net.specs.Numbers.{lines, components}
use Rattle.due_cells.specs.Seen.{due_at}
use Rattle.cell_table.specs.Events.{Event as TableEvent}
use Rattle.cell_table.specs.Settling.{IsSpent, IsSettledTo, IsClockSpent}
use Rattle.cell_table.specs.declared.given.SettleFault.{SettleFault}
use Rattle.cell_table.specs.declared.given.SettleFault.TheVariants as settle
use Rattle.machine_cells.specs.declared.state.MachineState.{MachineState}
use Rattle.machine_cells.specs.GridRules.{rp3_rules}
use Rattle.project_book.specs.Project.{Project, place_in}
use Rattle.project_book.specs.declared.slot.Slot.{Slot}
use Rattle.run_queries.specs.declared.query.Query.{Query}
use Rattle.run_queries.specs.declared.query.Query.TheVariants.{Reply, Order}
use Rattle.run_queries.specs.declared.query.Reach.{Reach}
use Rattle.run_queries.specs.declared.query.Reach.TheVariants.{Nothing, State, Word, To}
use Rattle.run_queries.specs.Queries.{last_of, reach, bad_query}
use Rattle.run_queries.specs.declared.body.Body.{Body}
use Rattle.run_queries.proofs.Good.{IsReached, good_reach}
use Rattle.serial_order.proofs.FirstWords.{placed_within}
use Rattle.bench_core.specs.declared.asked.Asked.TheVariants as asked
use Rattle.bench_core.specs.declared.told.Told.{Told}
use Rattle.bench_core.specs.declared.told.Told.TheVariants as told
use Rattle.bench_core.specs.Shown.{Shown, IsBench, project_of, version_of}
use Rattle.bench_core.specs.Events.{Event, Opening, project_after, version_after}
use Rattle.bench_core.specs.Stands.{Stands}
use Rattle.bench_core.specs.Asks.{module_of, waits_for, last_cycle, IsUpTo, pending, AsksAs, TellsRun, HoldsRunTo, HoldsRunAt, IsUpToDate}
use Rattle.bench_core.specs.Answers.{SettlesTo, SettlesFirstTo}
use Rattle.bench_core.specs.Told.{Looks, MayFindSpent, TellsAt, AnswersAsked, TellsAsked, told_at_fault}
use Rattle.bench_core.specs.Settled.{cycle_unless, settled_for, IsSettledFrom, IsPartlySettledFrom, IsSpentTo, SettlesOnceAs}
use Rattle.bench_core.specs.Answering.{IsOnce}
use Rattle.bench_core.proofs.Answered.{answer_told, bad_told, never_pending}
use Rattle.bench_core.proofs.Asking.{asks_found}
use Rattle.bench_core.proofs.Standing.{project_is, version_is}

-- each address stands in a module
pub placed : (P : Project) → IsPageMap P.pages → P.pages.k ≡ P.k → (a : ℕ) → module_of P a < components P.k
placed P map same a = let m : (place_in P a).«module» < lines P.k = placed_within P map same a in omega arith

-- ---- what the answer looks at

pub is_up_to_date : (b : Shown) (q : Query) → HoldsRunAt b (reach (project_of b) q) → IsUpToDate b q
is_up_to_date b (Order a) holds = tt
is_up_to_date b _ holds = holds

-- after a settling to a query's last cycle it holds the run
module _ (b : Shown) (bench : IsBench b.table b.journal) (last : ℕ) (settled : IsSettledTo rp3_rules last b.table) where
  pub holds_to : (end : ℕ) → end ≤ last → end ≤ (project_of b).horizon → HoldsRunTo b end
  holds_to end up_to within t c le lt = settled.runs t c (record { cycle = omega (arith, bench.horizon); component = lt }) (omega arith)

  holds_at : (r : Reach) → IsReached (project_of b) r → ((a : ℕ) → module_of (project_of b) a < components (project_of b).k) → IsUpTo (last_of r) last → HoldsRunAt b r
  holds_at Nothing ok placed up_to = tt
  holds_at (State c t) ok placed up_to = settled.runs t c (record { cycle = omega (arith, bench.horizon, ok.cycle); component = ok.component }) up_to
  holds_at (Word a t) ok placed up_to =
      (placed a, settled.runs t (module_of (project_of b) a) (record { cycle = omega (arith, bench.horizon, ok.cycle); component = placed a }) up_to)
  holds_at (To t) ok placed up_to = holds_to t up_to ok

  up_to_date : (q : Query) → bad_query (project_of b) q ≡ None → ((a : ℕ) → module_of (project_of b) a < components (project_of b).k)
      → IsUpTo (last_cycle (project_of b) q) last → IsUpToDate b q
  up_to_date q good placed up_to = is_up_to_date b q (holds_at (reach (project_of b) q) (good_reach (project_of b) q good) placed up_to)

is_up_to : (r : Option ℕ) (last : ℕ) → Some last ≡ r → IsUpTo r last
is_up_to r last is = rw (← is) (omega arith)

module _ (d next : Shown) (q : Query) (last : ℕ) (project : project_of next ≡ project_of d) (is : Some last ≡ last_cycle (project_of d) q) where
  up_to_last : IsUpTo (last_cycle (project_of next) q) last
  up_to_last = is_up_to (last_cycle (project_of next) q) last (is ∙ ap (λ P. last_cycle P q) (sym project))

  pub settled_ready : ((query : Query) → IsUpTo (last_cycle (project_of next) query) last → pending next query ≡ 0) → pending next q ≡ 0
  settled_ready ready = ready q up_to_last

  pub settled_there : IsBench next.table next.journal → IsSettledTo rp3_rules last next.table → bad_query (project_of d) q ≡ None
      → ((a : ℕ) → module_of (project_of next) a < components (project_of next).k) → IsUpToDate next q
  settled_there bench settled good placed = up_to_date next bench last settled q (ap (λ P. bad_query P q) project ∙ good) placed up_to_last

-- where it looks at no cell, none is due
nothing_at : (b : Shown) (r : Reach) → None ≡ last_of r → (waits_for (project_of b) (due_at b.table.rows) r ≡ 0) × HoldsRunAt b r
nothing_at b Nothing is = (refl, tt)
nothing_at b _ is = absurd cc

pub looks_at_none : (b : Shown) (q : Query) → None ≡ last_cycle (project_of b) q → (pending b q ≡ 0) × IsUpToDate b q
looks_at_none b q is = let none = nothing_at b (reach (project_of b) q) is in (none.0, is_up_to_date b q none.1)

-- ---- the settling

-- a query that isn't refused by its numbers is settled for to its last cycle
pub settled_good : (P : Project) (q : Query) (r : Option ℕ) → bad_query P q ≡ None → r ≡ last_cycle P q → settled_for P q ≡ r
settled_good P q r good is = rw good (sym is)

pub settles_none : (d : Shown) (q : Query) → settled_for (project_of d) q ≡ None → IsSettledFrom (settled_for (project_of d) q) d d
settles_none d q is = rw is refl

pub settles_all : (d next : Shown) (q : Query) (last n : ℕ) → settled_for (project_of d) q ≡ Some last
    → ((done : List (TableEvent MachineState Project Slot)) × ((o : Opening) (h : List Event) → Stands o d h → SettlesTo last o h next done n))
    → IsSettledFrom (settled_for (project_of d) q) d next
settles_all d next q last n is all = rw is (all.0, n, all.1)

pub settles_first : (d next : Shown) (q : Query) (last n : ℕ) → settled_for (project_of d) q ≡ Some last
    → ((done : List (TableEvent MachineState Project Slot)) × ((o : Opening) (h : List Event) → Stands o d h → SettlesFirstTo last o h next done n))
    → IsPartlySettledFrom (settled_for (project_of d) q) d next
settles_first d next q last n is first = rw is (first.0, n, first.1)

pub spent_to : (d next : Shown) (q : Query) (last : ℕ) → settled_for (project_of d) q ≡ Some last
    → ((spent : IsSpent rp3_rules next.table 0 0) × (spent.cell.cycle ≤ last)) → IsSpentTo (settled_for (project_of d) q) next
spent_to d next q last is spent = rw is spent

-- ---- what is told

-- a reason by the numbers costs no cell
pub refused_told : (b : Shown) (q : Query) (n : ℕ) → bad_query (project_of b) q ≡ Some n → TellsAt (project_of b) (version_of b) q (told.BadQuery n)
refused_told b q n is = rw is refl

pub refused_settles : (d : Shown) (q : Query) (n : ℕ) → bad_query (project_of d) q ≡ Some n → SettlesOnceAs q (told.BadQuery n) d d
refused_settles d q n is = rw is refl

pub partly : (last : Option ℕ) (d next : Shown) → IsSettledFrom last d next → IsPartlySettledFrom last d next
partly None d next s = s
partly (Some last) d next s = (s.0, s.1, λ o h stands. let all = s.2 o h stands in record { stands = all.stands; table = all.table.firsts })

-- after a settling that ended well
pub told_settles : (d next left : Shown) (q : Query) (r : Told) → left ≡ next → (r ≡ told.ClockSpent → ⊥) → IsSettledFrom (settled_for (project_of d) q) d next → SettlesOnceAs q r d left
told_settles d next left q (told.Answer v body) same in_time s = rw same s
told_settles d next left q (told.BadQuery n) same in_time s = rw same s
told_settles d next left q told.ClockSpent same in_time s = absurd (in_time refl)
told_settles d next left q told.Memory same in_time s = rw same (partly (settled_for (project_of d) q) d next s)

-- a clock that was found spent was needed for a cell
looks_to : (b : Shown) (r : Reach) → IsSpentTo (last_of r) b → Looks r
looks_to b Nothing spent = absurd spent
looks_to b _ spent = tt

may_find : (P : Project) (b : Shown) (q : Query) → bad_query P q ≡ None → IsOnce q → IsSpentTo (settled_for P q) b → MayFindSpent P q
may_find P b (Order a) good once spent = absurd once
may_find P b q good once spent = (good, looks_to b (reach P q) (subst (λ r. IsSpentTo (cycle_unless r (last_cycle P q)) b) good spent))

-- after one that met a fault
module _ (d next : Shown) (q : Query) (good : bad_query (project_of d) q ≡ None) (project : project_of next ≡ project_of d) where
  pub fault_told : IsOnce q → (fault : SettleFault) → (IsClockSpent fault → IsSpentTo (settled_for (project_of d) q) next)
      → TellsAt (project_of next) (version_of next) q (told_at_fault fault) × TellsAsked next q (told_at_fault fault)
  fault_told once (settle.ClockSpent n) spent = let may = may_find (project_of d) next q good once (spent tt) in (rw project may, rw project may)
  fault_told once (settle.Memory n) spent = (rw project good, rw project good)

  pub fault_settles : (fault : SettleFault) → IsPartlySettledFrom (settled_for (project_of d) q) d next → (IsClockSpent fault → IsSpentTo (settled_for (project_of d) q) next)
      → SettlesOnceAs q (told_at_fault fault) d next
  fault_settles (settle.ClockSpent n) first spent = (first, spent tt)
  fault_settles (settle.Memory n) first spent = first

pub fault_spent : (fault : SettleFault) → told_at_fault fault ≡ told.ClockSpent → IsClockSpent fault
fault_spent (settle.ClockSpent n) is = tt
fault_spent (settle.Memory n) is = absurd cc

answers_asked : (b : Shown) (q : Query) (v : ℕ) (body : Body) → AsksAs b q (asked.Answer v body) → AnswersAsked b q v body
answers_asked b (Reply p n) v body asks = let a = answer_told b (Reply p n) v body asks in (a.1, a.0)
answers_asked b (Order n) v body asks = let a = answer_told b (Order n) v body asks in (a.1, a.0)
answers_asked b _ v body asks = asks

-- by what is asked of it then
module _ (b : Shown) (q : Query) (good : bad_query (project_of b) q ≡ None) (none : pending b q ≡ 0) where
  pub tells_answer : (v : ℕ) (body : Body) → TellsRun b q (asked.Answer v body) → TellsAt (project_of b) (version_of b) q (told.Answer v body) × TellsAsked b q (told.Answer v body)
  tells_answer v body tells =
      let asks = asks_found b q (asked.Answer v body) good none tells in
      let a = answer_told b q v body asks in
      ((a.1, a.0), answers_asked b q v body asks)

  pub tells_bad : (n : ℕ) → TellsRun b q (asked.BadQuery n) → TellsAt (project_of b) (version_of b) q (told.BadQuery n) × TellsAsked b q (told.BadQuery n)
  tells_bad n tells =
      let asks = asks_found b q (asked.BadQuery n) good none tells in
      (bad_told b q n asks, asks)

  pub tells_no_number : (due : ℕ) → TellsRun b q (asked.Pending due) → ⊥
  tells_no_number due tells = never_pending b q due none (asks_found b q (asked.Pending due) good none tells)

-- by the events behind the bench
pub tells_run : (old new : Shown) (q : Query) (r : Told) → project_of new ≡ project_of old → new.journal ≡ old.journal → TellsAt (project_of new) (version_of new) q r
    → (o : Opening) (h : List Event) → Stands o old h → TellsAt (project_after o h) (version_after h) q r
tells_run old new q r project journal tells o h stands =
    subst (λ P. TellsAt P (version_after h) q r) (project ∙ project_is o old h stands)
    (subst (λ v. TellsAt (project_of new) v q r) (ap length journal ∙ version_is o old h stands) tells)
