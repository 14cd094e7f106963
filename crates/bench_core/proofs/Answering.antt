-- A bench that is settled as far as the answer to a query looks.
use Rattle.std.proofs.Common.{◌≡◌, ◌⊎◌, ℕ, sym, subst, refl, true, false, None, Some, Ok, Err, Result}
use Rattle.std.specs.Prelude.{nat_lt, List, IfOk, IfErr}
use Rattle.std.proofs.lemmas.Bool.{lt-ltb}
use Rattle.page_map.specs.Limits.{address_count}
use Rattle.machine_cells.specs.declared.state.MachineState.{MachineState}
use Rattle.cell_table.specs.Events.{Event as TableEvent}
use Rattle.cell_table.specs.Settling.{computed_of}
use Rattle.cell_table.specs.declared.given.Settled.{Settled}
use Rattle.cell_table.specs.declared.given.SettleFault.{SettleFault}
use Rattle.project_book.specs.Project.{Project}
use Rattle.project_book.specs.declared.slot.Slot.{Slot}
use Rattle.run_queries.specs.Queries.{bad_query}
use Rattle.run_queries.specs.Answers.{answer}
use Rattle.run_queries.specs.declared.query.Query.{Query}
use Rattle.run_queries.specs.declared.query.Query.TheVariants.{Reply, Order}
use Rattle.run_queries.specs.declared.body.Body.TheVariants.{Reply as Replied}
use Rattle.run_queries.specs.declared.body.Received.{Received}
use Rattle.run_queries.specs.declared.body.Body.{Body}
use Rattle.run_queries.proofs.Good.{good_order}
use Rattle.bench_core.specs.declared.asked.Asked.TheVariants as asked
use Rattle.bench_core.specs.declared.told.Told.{Told}
use Rattle.bench_core.specs.declared.told.Told.TheVariants as told
use Rattle.bench_core.specs.Shown.{Shown, project_of, version_of}
use Rattle.bench_core.specs.Asks.{pending, TellsRun}
use Rattle.bench_core.specs.Told.{TellsAt, TellsAsked, told_at_fault}
use Rattle.bench_core.specs.Events.{Event, Opening}
use Rattle.bench_core.specs.Stands.{Stands}
use Rattle.bench_core.specs.Answers.{SettlesTo, SettlesFirstTo}
use Rattle.bench_core.specs.Settled.{IsPartlySettledFrom, SettlesOnceAs}
use Rattle.bench_core.specs.Seeking.{begins_at, SeeksAs}
use Rattle.bench_core.specs.Answering.{has_few_due, IsOnce, StaysAs, SettlesReplyAs, SettlesFew, SettlesOrderAs, SettlesAs}
use Rattle.bench_core.proofs.Settled.{refused_settles, partly}
use Rattle.bench_core.proofs.Seeking.{told_is_answer}

-- a query that its own numbers refuse
pub refused_as : (d : Shown) (q : Query) (n : ℕ) → bad_query (project_of d) q ≡ Some n → SettlesAs q (told.BadQuery n) d d
refused_as d (Reply p k) n is = rw is refl
refused_as d (Order a) n is = rw is refl
refused_as d q n is = refused_settles d q n is

-- every query but a reply and an order
pub is_once : (q : Query) → ((p n : ℕ) → q ≡ Reply p n → ⊥) → ((a : ℕ) → q ≡ Order a → ⊥) → IsOnce q
is_once (Reply p n) no_reply no_order = absurd (no_reply p n refl)
is_once (Order a) no_reply no_order = absurd (no_order a refl)
is_once _ no_reply no_order = tt

pub other_as : (d next : Shown) (q : Query) (r : Told) → IsOnce q → SettlesOnceAs q r d next → SettlesAs q r d next
other_as d next (Reply p n) r other s = absurd other
other_as d next (Order a) r other s = absurd other
other_as d next _ r other s = s

-- a reply that its numbers don't refuse
pub reply_as : (d next : Shown) (p n : ℕ) (r : Told) → bad_query (project_of d) (Reply p n) ≡ None → StaysAs (Reply p n) r d next ⊎ SettlesReplyAs p n r d next → SettlesAs (Reply p n) r d next
reply_as d next p n r good s = rw good s

-- where no cell is due nothing is settled
pub reply_stays : (d next : Shown) (q : Query) (r : Told) → (r ≡ told.ClockSpent → ⊥) → pending d q ≡ 0 → next ≡ d → StaysAs q r d next
reply_stays d next q (told.Answer v body) in_time none same = (none, same)
reply_stays d next q (told.BadQuery k) in_time none same = (none, same)
reply_stays d next q told.ClockSpent in_time none same = absurd (in_time refl)
reply_stays d next q told.Memory in_time none same = (none, same)

module _ (d next : Shown) (p n : ℕ) where
  module _ (begin : ℕ) (begins : begin ≡ begins_at d p n) where
    pub reply_found : (v : ℕ) (r : Received) → SeeksAs p n begin d next (Ok (Some r)) → SettlesReplyAs p n (told.Answer v (Replied (Some r))) d next
    reply_found v r s = record { begin = begin; sought = Ok (Some r); begins = begins; seeks = s; comes = refl }

    none_comes : (r : Told) → (r ≡ told.ClockSpent → ⊥) → SeeksAs p n begin d next (Ok None) → SettlesReplyAs p n r d next
    none_comes (told.Answer v body) in_time s = record { begin = begin; sought = Ok None; begins = begins; seeks = s; comes = tt }
    none_comes (told.BadQuery k) in_time s = record { begin = begin; sought = Ok None; begins = begins; seeks = s; comes = tt }
    none_comes told.ClockSpent in_time s = absurd (in_time refl)
    none_comes told.Memory in_time s = record { begin = begin; sought = Ok None; begins = begins; seeks = s; comes = tt }

    pub reply_none : (left : Shown) (r : Told) → left ≡ next → (r ≡ told.ClockSpent → ⊥) → SeeksAs p n begin d next (Ok None) → SettlesReplyAs p n r d left
    reply_none left r same in_time s = subst (SettlesReplyAs p n r d) (sym same) (none_comes r in_time s)

    pub reply_fault : (fault : SettleFault) → SeeksAs p n begin d next (Err fault) → SettlesReplyAs p n (told_at_fault fault) d next
    reply_fault fault s = record { begin = begin; sought = Err fault; begins = begins; seeks = s; comes = refl }

  -- the reply that was found is that of the run
  pub found_told : (begin v : ℕ) (r : Received) → bad_query (project_of d) (Reply p n) ≡ None → project_of next ≡ project_of d → v ≡ version_of next → SeeksAs p n begin d next (Ok (Some r))
      → TellsAt (project_of next) (version_of next) (Reply p n) (told.Answer v (Replied (Some r))) × TellsAsked next (Reply p n) (told.Answer v (Replied (Some r)))
  found_told begin v r good same at s =
      let is : answer (project_of next) (Reply p n) ≡ Ok (Replied (Some r)) = subst (λ P. answer P (Reply p n) ≡ Ok (Replied (Some r))) (sym same) (told_is_answer (project_of d) p n s.1 r good s.3 s.5) in
      ((at, is), (at, is))

-- ---- orders

module _ (b : Shown) (a : ℕ) (good : bad_query (project_of b) (Order a) ≡ None) where
  -- the run says a list to it, or there is no memory for it
  pub order_told : (v : ℕ) (body : Body) → TellsRun b (Order a) (asked.Answer v body)
      → TellsAt (project_of b) (version_of b) (Order a) (told.Answer v body) × TellsAsked b (Order a) (told.Answer v body)
  order_told v body tells =
      let small : nat_lt a address_count ≡ true = lt-ltb a address_count (good_order (project_of b) a good) in
      let says : asked.Answer v body ≡ _ = rw small at tells in
      let is : (v ≡ version_of b) × (answer (project_of b) (Order a) ≡ Ok body) = (cc, rw (good, small) cc) in
      (is, is)

  pub order_is_there : (n : ℕ) → TellsRun b (Order a) (asked.BadQuery n) → ⊥
  order_is_there n tells =
      let small : nat_lt a address_count ≡ true = lt-ltb a address_count (good_order (project_of b) a good) in
      let e : _ = rw small at tells in cc

  pub order_waits_not : (n : ℕ) → TellsRun b (Order a) (asked.Pending n) → ⊥
  order_waits_not n tells =
      let small : nat_lt a address_count ≡ true = lt-ltb a address_count (good_order (project_of b) a good) in
      let e : _ = rw small at tells in cc

-- where few cells are due they are settled, as far as memory reaches; where many are, nothing is changed
pub settles_few : (d next : Shown) → has_few_due d ≡ true → IsPartlySettledFrom (Some (project_of d).horizon) d next → SettlesFew (has_few_due d) d next
settles_few d next few s = rw few s

pub leaves_many : (d : Shown) → has_few_due d ≡ false → SettlesFew (has_few_due d) d d
leaves_many d many = rw many refl

pub order_as : (d next left : Shown) (r : Told) → left ≡ next → (r ≡ told.ClockSpent → ⊥) → SettlesFew (has_few_due d) d next → SettlesOrderAs r d left
order_as d next left (told.Answer v body) same in_time s = rw same s
order_as d next left (told.BadQuery n) same in_time s = rw same s
order_as d next left told.ClockSpent same in_time s = absurd (in_time refl)
order_as d next left told.Memory same in_time s = rw same s

-- an order that its numbers don't refuse
pub order_good : (d next : Shown) (a : ℕ) (r : Told) → bad_query (project_of d) (Order a) ≡ None → SettlesOrderAs r d next → SettlesAs (Order a) r d next
order_good d next a r good s = rw good s

-- a settling up to a cycle, however it ended
pub settled_part : (d next : Shown) (last : ℕ) (r : Result Settled SettleFault)
    → IfOk r (λ s. (done : List (TableEvent MachineState Project Slot)) × ((o : Opening) (h : List Event) → Stands o d h → SettlesTo last o h next done s.computed))
    → IfErr r (λ f. (done : List (TableEvent MachineState Project Slot)) × ((o : Opening) (h : List Event) → Stands o d h → SettlesFirstTo last o h next done (computed_of f)))
    → IsPartlySettledFrom (Some last) d next
settled_part d next last (Ok s) all first = partly (Some last) d next (all.0, s.computed, all.1)
settled_part d next last (Err f) all first = (first.0, computed_of f, first.1)
