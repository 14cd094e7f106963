-- What a bench keeps of its answers, from call to call.
use Rattle.std.proofs.Common.{◌≡◌, ℕ, ◌+◌, ◌<◌, ◌∙◌, ◌⊎◌, inl, inr, sym, ap, arith, true, List, [], length, Contains, Option, None, Ok}
use Rattle.std.proofs.lemmas.Bool.Decides.{Decides-eqb}
use Rattle.std.specs.Prelude.{Result, Err, Bool, IfOk, IfSome, OnOk, OnErr, Some}
use Rattle.std.specs.Result.{result_ok}
use Rattle.std.specs.Map.{lookup}
use Rattle.lru.specs.LruCache.{LruCache, lru_cache, promoted, put_entries}
use Rattle.lru.proofs.CallerLemmas.{Contains-lookup, Contains-promoted, Contains-put_entries}
use Rattle.machine_cells.specs.Run.{run}
use Rattle.machine_cells.specs.Runs.{state_in}
use Rattle.project_book.specs.Project.{Project}
use Rattle.run_queries.specs.declared.query.Query.{Query}
use Rattle.run_queries.specs.declared.body.Body.{Body}
use Rattle.run_queries.specs.Queries.{bad_query}
use Rattle.run_queries.specs.Answers.{answer, found_in, unless}
use Rattle.omega_net.proofs.Same.{same_two}
use Rattle.run_queries.proofs.Good.{and_true, same_query}
use Rattle.bench_core.specs.declared.asked.Asked.TheVariants as asked
use Rattle.bench_core.specs.declared.recent.Asking.{Asking}
use Rattle.bench_core.specs.contracts.recent.AskingPartialEq.TheImpl as askings
use Rattle.due_cells.specs.Seen.{Seen}
use Rattle.machine_cells.specs.declared.state.MachineState.{MachineState}
use Rattle.monitor_sums.specs.Kept.{Kept}
use Rattle.bench_core.specs.declared.noted.Noted.{Noted}
use Rattle.bench_core.specs.Stands.{HasHistory}
use Rattle.bench_core.specs.Shown.{Shown, IsBench, AreCounted, project_of, version_of}
use Rattle.bench_core.specs.Asks.{told, TellsRun}
use Rattle.bench_core.specs.Recent.{Entry, AreTold}
use Rattle.bench_core.proofs.Counting.{short_still}

-- what `==` takes for the same was asked as that
pub same_asking : (a b : Asking) → askings.eq-value.it a b ≡ true → a ≡ b
same_asking a b h =
    let e = and_true _ _ h in
    same_two (λ v q. record { version = v; query = q }) ((Decides-eqb a.version b.version).0 e.0, same_query a.query b.query e.1)

pub told_none : (P : Project) (v : ℕ) → AreTold P v []
told_none P v a there = let lt : there.0 < 0 = there.1 in absurd (omega (arith, lt))

-- what is found under a query was kept under it, and a share of it is what was kept
pub shared_kept : {E : Type 0} (kept : List Entry) (e : Asking) (held : Body) (r : Result Body E)
    → lookup (askings.eq-value.it e) kept ≡ Some held → IfOk r (λ b. b ≡ held) → IfSome (result_ok r) (λ b. Contains kept (e, b))
shared_kept kept e held (Err x) at shared = tt
shared_kept kept e held (Ok b) at same =
    let found = Contains-lookup (askings.eq-value.it e) kept held at in
    rw (same, same_asking e found.0 found.2) found.1

-- a look-up takes nothing in
pub looked_up : (test : Asking → Bool) (old new : LruCache Asking Body) → new ≡ lru_cache (promoted test old.entries) old.cap → (a : Entry) → Contains new.entries a → Contains old.entries a
looked_up test old new is a there = Contains-promoted test old.entries a (rw is at there)

-- one entry more, or none
pub put_kept : {R E : Type 0} (r : Result R E) (old new : LruCache Asking Body) (e : Asking) (b : Body)
    → OnOk r (new ≡ lru_cache (put_entries askings.eq-value.it old e b) old.cap) → OnErr r (new ≡ old) → (a : Entry) → Contains new.entries a → Contains old.entries a ⊎ (a ≡ (e, b))
put_kept (Ok x) old new e b is same a there =
    elim (Contains-put_entries askings.eq-value.it old e b a (rw is at there)) [
      | inl before ↦ inl before
      | inr put ↦ inr (same_two (λ k v. (k, v)) (elim put.1 [ inl k ↦ k | inr k ↦ sym (same_asking e a.0 k.2) ], put.0))
    ]
put_kept (Err x) old new e b is same a there = inl (rw same at there)

module _ (P : Project) (v : ℕ) (kept : List Entry) (told : AreTold P v kept) where
  pub told_kept : (now : List Entry) → ((a : Entry) → Contains now a → Contains kept a) → AreTold P v now
  told_kept now stays a there = told a (stays a there)

  pub told_more : (now : List Entry) (e : Entry) → ((a : Entry) → Contains now a → Contains kept a ⊎ (a ≡ e)) → e.0.version ≡ v → answer P e.0.query ≡ Ok e.1 → AreTold P v now
  told_more now e more at is a there = elim (more a there) [
    | inl before ↦ told a before
    | inr same ↦ rw same (omega (arith, at), λ now. is)
  ]

  -- after an edit all of it was told at an earlier version
  pub told_later : (next : Project) → AreTold next (v + 1) kept
  told_later next a there = let before = (told a there).0 in (omega (arith, before), λ now. absurd (omega (arith, before, now)))

-- what is true inside of every bench; of its rows, that they hold what they hold of the run of a project
abbrev pub IsInside : Seen MachineState Project → Option Kept → List Noted → List Entry → (Project → Type 0) → Type 0
IsInside table sums journal recent hold = IsBench table journal × AreCounted sums table × HasHistory (record { table = table; journal = journal }) × AreTold table.slots (length journal) recent × hold table.slots

-- it stays so of an equal table and an equal journal
pub holds_still : (old new : Seen MachineState Project) (sums : Option Kept) (before after : List Noted) (recent : List Entry) (hold : Project → Type 0) → new ≡ old → after ≡ before → IsInside old sums before recent hold → IsInside new sums after recent hold
holds_still old new sums before after recent hold same noted inside = rw (same, noted) inside

-- what is true of a project is true of an equal one
pub true_of_equal : (old new : Project) (hold : Project → Type 0) → new ≡ old → hold old → hold new
true_of_equal old new hold same before = rw same before

-- and where neither the project nor its horizon changes, and the rest is kept
pub inside_still : (old new : Seen MachineState Project) (sums next : Option Kept) (journal : List Noted) (recent : List Entry) (hold hold1 : Project → Type 0) → IsInside old sums journal recent hold → new.slots ≡ old.slots → new.horizon ≡ old.horizon
    → AreCounted next new → HasHistory (record { table = new; journal = journal }) → hold1 new.slots → IsInside new next journal recent hold1
inside_still old new sums next journal recent hold hold1 inside slots horizon counts history after = (
  record { horizon = horizon ∙ inside.0.horizon ∙ ap (λ (p : Project). p.horizon) (sym slots); short = short_still old new slots horizon inside.0.short; few = inside.0.few },
  counts,
  history,
  rw slots inside.3,
  after,
)

answer_is : (version v : ℕ) (says : Result Body ℕ) (body : Body) → asked.Answer v body ≡ told version says → says ≡ Ok body
answer_is version v (Ok b) body e = cc
answer_is version v (Err n) body e = cc

module _ (b : Shown) (q : Query) (body : Body) (good : bad_query (project_of b) q ≡ None) where
  found_is : answer (project_of b) q ≡ found_in (state_in (run (project_of b))) (project_of b) q
  found_is = ap (λ (o : Option ℕ). unless o (found_in (state_in (run (project_of b))) (project_of b) q)) good

  -- what was told is the project's answer
  pub answer_told : (v : ℕ) → TellsRun b q (asked.Answer v body) → answer (project_of b) q ≡ Ok body
  answer_told v tells = found_is ∙ answer_is (version_of b) v (found_in (state_in (run (project_of b))) (project_of b) q) body tells

  -- and may be told again
  pub kept_tells : answer (project_of b) q ≡ Ok body → TellsRun b q (asked.Answer (version_of b) body)
  kept_tells is = sym (ap (told (version_of b)) (sym found_is ∙ is))
