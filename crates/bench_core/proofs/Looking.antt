-- Looking up what a query asks for.
use Rattle.std.proofs.Common.{◌≡◌, ℕ, suc, ◌<◌, ◌≤◌, ◌∙◌, sym, subst, refl, arith, true, List, None, Some}
use Rattle.std.specs.Prelude.{nat_lt}
use Rattle.std.proofs.lemmas.Bool.{lt-ltb}
use Rattle.page_map.specs.Limits.{address_count}
use Rattle.omega_net.specs.declared.message.Tag.{Tag}
use Rattle.omega_net.specs.Numbers.{components}
use Rattle.machine_cells.specs.Run.{run}
use Rattle.machine_cells.specs.Runs.{state_in}
use Rattle.machine_cells.proofs.Runs.{runs_are_one}
use Rattle.run_queries.specs.declared.query.Query.{Query}
use Rattle.run_queries.specs.declared.query.Query.TheVariants.{Reply, State, Memory, Order}
use Rattle.run_queries.specs.Queries.{bad_query}
use Rattle.run_queries.specs.Answers.{found_in}
use Rattle.run_queries.proofs.Good.{good_reply, good_state, good_memory, good_order}
use Rattle.run_queries.proofs.Stretches.{same_issued, same_reply}
use Rattle.run_queries.specs.declared.body.Body.TheVariants as body
use Rattle.serial_order.specs.Order.{order_of}
use Rattle.bench_core.specs.declared.asked.Asked.{Asked}
use Rattle.bench_core.specs.declared.asked.Asked.TheVariants as asked
use Rattle.bench_core.specs.Shown.{Shown, project_of, version_of, held}
use Rattle.bench_core.specs.Asks.{module_of, TellsAs, TellsRun, HoldsRunTo, IsUpToDate}

module _ (b : Shown) where
  -- what is up to date is what the run has
  pub run_held : (end t c : ℕ) → HoldsRunTo b end → t ≤ end → t ≤ (project_of b).horizon → c < components (project_of b).k → held b.table t c ≡ state_in (run (project_of b)) t c
  run_held end t c ready le h k = ready t c le k ∙ sym (runs_are_one (project_of b) t c h k)

  -- and so what is said of it
  says : (q : Query) (result : Asked) → found_in (held b.table) (project_of b) q ≡ found_in (state_in (run (project_of b))) (project_of b) q
      → TellsAs (version_of b) (found_in (held b.table) (project_of b) q) result → TellsRun b q result
  says q result e tells = subst (λ x. TellsAs (version_of b) x result) e tells

  pub reply_told : (p n : ℕ) (result : Asked) → bad_query (project_of b) (Reply p n) ≡ None → HoldsRunTo b (project_of b).horizon
      → TellsAs (version_of b) (found_in (held b.table) (project_of b) (Reply p n)) result → TellsRun b (Reply p n) result
  reply_told p n result good ready =
      let all : (t : ℕ) → t < suc (project_of b).horizon → held b.table t p ≡ state_in (run (project_of b)) t p = λ t lt. run_held (project_of b).horizon t p ready (omega arith) (omega arith) (good_reply (project_of b) p n good) in
      says (Reply p n) result (rw (same_issued (λ t. held b.table t p) (λ t. state_in (run (project_of b)) t p) (suc (project_of b).horizon) all, same_reply (λ t. held b.table t p) (λ t. state_in (run (project_of b)) t p) n (suc (project_of b).horizon) all) refl)

  pub state_told : (c t : ℕ) (result : Asked) → bad_query (project_of b) (State c t) ≡ None → IsUpToDate b (State c t)
      → TellsAs (version_of b) (found_in (held b.table) (project_of b) (State c t)) result → TellsRun b (State c t) result
  state_told c t result good ready =
      let ok = good_state (project_of b) c t good in
      says (State c t) result (rw (ready ∙ sym (runs_are_one (project_of b) t c ok.cycle ok.component)) refl)

  pub word_told : (a t : ℕ) (result : Asked) → bad_query (project_of b) (Memory a t) ≡ None → IsUpToDate b (Memory a t)
      → TellsAs (version_of b) (found_in (held b.table) (project_of b) (Memory a t)) result → TellsRun b (Memory a t) result
  word_told a t result good ready =
      let ok = good_memory (project_of b) a t good in
      says (Memory a t) result (rw (ready.1 ∙ sym (runs_are_one (project_of b) t (module_of (project_of b) a) ok.cycle ready.0)) refl)

  -- an order is that of the run, and there is one for each address that is there
  pub order_listed : (a : ℕ) (tags : List Tag) → order_of (project_of b) a ≡ Some tags → TellsRun b (Order a) (asked.Answer (version_of b) (body.Order tags))
  order_listed a tags is = rw is refl

  pub order_there : (a : ℕ) → bad_query (project_of b) (Order a) ≡ None → order_of (project_of b) a ≡ None → ⊥
  order_there a good none =
      let small : nat_lt a address_count ≡ true = lt-ltb a address_count (good_order (project_of b) a good) in
      let e : _ = rw small at none in cc

  pub order_wants : (a : ℕ) → bad_query (project_of b) (Order a) ≡ None → TellsRun b (Order a) asked.Memory
  order_wants a good =
      let small : nat_lt a address_count ≡ true = lt-ltb a address_count (good_order (project_of b) a good) in
      rw small tt
