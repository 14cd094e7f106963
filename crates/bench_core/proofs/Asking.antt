-- What a bench is asked, case by case.
use Rattle.std.proofs.Common.{◌≡◌, ℕ, zero, suc, ◌∙◌, refl, None, Some, List}
use Rattle.machine_cells.specs.Run.{run}
use Rattle.machine_cells.specs.Runs.{state_in}
use Rattle.run_queries.specs.declared.query.Query.{Query}
use Rattle.run_queries.specs.declared.query.Query.TheVariants.{State, Memory as MemoryAt}
use Rattle.run_queries.specs.declared.body.Body.{Body}
use Rattle.run_queries.specs.Queries.{bad_query, reach}
use Rattle.run_queries.specs.Answers.{found_in}
use Rattle.bench_core.specs.declared.asked.Asked.{Asked}
use Rattle.bench_core.specs.declared.asked.Asked.TheVariants.{Answer, Pending, BadQuery, Memory}
use Rattle.bench_core.specs.Shown.{Shown, project_of, version_of}
use Rattle.bench_core.specs.Events.{Event, Opening}
use Rattle.bench_core.specs.Stands.{Stands}
use Rattle.bench_core.specs.Asks.{pending, told, told_unless, asked, MayWant, AsksAs, TellsRun, IsOneCell}
use Rattle.bench_core.specs.Answers.{AnswersRun}
use Rattle.bench_core.proofs.Answered.{answer_told}
use Rattle.bench_core.proofs.Standing.{project_is, version_is}

-- a reason by the numbers
pub asks_bad : (b : Shown) (q : Query) (n : ℕ) → bad_query (project_of b) q ≡ Some n → AsksAs b q (BadQuery n)
asks_bad b q n h = rw h refl

-- no reason by the numbers
asked_good : (b : Shown) (q : Query) → bad_query (project_of b) q ≡ None
    → asked b q ≡ told_unless (pending b q) (told (version_of b) (found_in (state_in (run (project_of b))) (project_of b) q))
asked_good b q h = rw h refl

pub asks_pending : (b : Shown) (q : Query) (n : ℕ) → bad_query (project_of b) q ≡ None → n ≡ pending b q → (n ≡ 0 → ⊥) → AsksAs b q (Pending n)
asks_pending b q zero good is some = absurd (some refl)
asks_pending b q (suc n) good is some = rw (good, ← is) refl

may_want : (n v : ℕ) (body : Body) → MayWant (told_unless n (Answer v body))
may_want zero v body = tt
may_want (suc n) v body = tt

-- want of memory while the due cells were counted
pub asks_wanting : (b : Shown) (q : Query) → bad_query (project_of b) q ≡ None → IsOneCell (reach (project_of b) q) → AsksAs b q Memory
asks_wanting b (State c t) good h = rw good (may_want (pending b (State c t)) _ _)
asks_wanting b (MemoryAt a t) good h = rw good (may_want (pending b (MemoryAt a t)) _ _)
asks_wanting b _ good h = absurd h

-- what the run says, where nothing is due that it rests on
pub asks_found : (b : Shown) (q : Query) (result : Asked) → bad_query (project_of b) q ≡ None → pending b q ≡ 0 → TellsRun b q result → AsksAs b q result
asks_found b q result good none tells = rw (good, none) tells

-- an answer is that of the project, at the version
pub answers_run : (b : Shown) (q : Query) (result : Asked) → AsksAs b q result → (o : Opening) (h : List Event) → Stands o b h → AnswersRun o h q result
answers_run b q (Answer v body) asks o h stands =
    let told = answer_told b q v body asks in
    (told.1 ∙ version_is o b h stands, rw (project_is o b h stands) at told.0)
answers_run b q _ asks o h stands = tt
