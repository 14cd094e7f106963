-- What an answer of a bench says of the run of its project.
use Rattle.std.proofs.Common.{◌≡◌, ◌≢◌, ℕ, zero, suc, refl, Option, None, Some, Ok}
use Rattle.std.specs.Prelude.{Result, Err}
use Rattle.run_queries.specs.declared.query.Query.{Query}
use Rattle.run_queries.specs.declared.body.Body.{Body}
use Rattle.run_queries.specs.Queries.{bad_query}
use Rattle.run_queries.specs.Answers.{answer, unless}
use Rattle.bench_core.specs.declared.asked.Asked.{Asked}
use Rattle.bench_core.specs.declared.asked.Asked.TheVariants as asked
use Rattle.bench_core.specs.Shown.{Shown, project_of, version_of}
use Rattle.bench_core.specs.Asks.{asked as asked_of, asked_unless, told_unless, told, pending, MayWant, AsksAs}
use Rattle.bench_core.specs.Told.{AnswersAt}

answer_of : (bad : Option ℕ) (n version v : ℕ) (says : Result Body ℕ) (body : Body) → asked.Answer v body ≡ asked_unless bad (told_unless n (told version says)) → (says ≡ Ok body) × (v ≡ version)
answer_of None zero version v (Ok b) body h = (cc, cc)
answer_of _ _ version v _ body h = (cc, cc)

bad_of : (bad : Option ℕ) (n version k : ℕ) (found says : Result Body ℕ) → says ≡ unless bad found
    → asked.BadQuery k ≡ asked_unless bad (told_unless n (told version says)) → says ≡ Err k
bad_of None zero version k found (Ok b) is h = cc
bad_of _ _ version k found _ is h = cc

waits_of : (bad : Option ℕ) (n due version : ℕ) (says : Result Body ℕ) → n ≡ 0
    → asked.Pending due ≡ asked_unless bad (told_unless n (told version says)) → ⊥
waits_of None zero due version (Ok b) none h = absurd cc
waits_of _ _ due version _ none h = absurd cc

-- an answer is that of the run, at the bench's version
pub answer_told : (b : Shown) (q : Query) (v : ℕ) (body : Body) → asked.Answer v body ≡ asked_of b q → (answer (project_of b) q ≡ Ok body) × (v ≡ version_of b)
answer_told b q v body h = answer_of (bad_query (project_of b) q) (pending b q) (version_of b) v (answer (project_of b) q) body h

-- a refusal is that of the run
pub bad_told : (b : Shown) (q : Query) (k : ℕ) → asked.BadQuery k ≡ asked_of b q → answer (project_of b) q ≡ Err k
bad_told b q k h = bad_of (bad_query (project_of b) q) (pending b q) (version_of b) k _ (answer (project_of b) q) refl h

-- a query that waits for none isn't answered Pending
pub never_pending : (b : Shown) (q : Query) (due : ℕ) → pending b q ≡ 0 → asked.Pending due ≡ asked_of b q → ⊥
never_pending b q due none h = waits_of (bad_query (project_of b) q) (pending b q) due (version_of b) (answer (project_of b) q) none h

pending_of : (bad : Option ℕ) (n due version : ℕ) (says : Result Body ℕ) → asked.Pending due ≡ asked_unless bad (told_unless n (told version says)) → (bad ≡ None) × (due ≢ 0)
pending_of None (suc n) due version _ h = (refl, λ none. cc)
pending_of None zero due version (Ok b) h = (cc, λ none. cc)
pending_of _ _ due version _ h = (cc, λ none. cc)

wanting_of : (bad : Option ℕ) (then : Asked) → MayWant (asked_unless bad then) → bad ≡ None
wanting_of None then h = refl
wanting_of (Some k) then h = absurd h

-- a query that waits isn't refused by its numbers
pub pending_good : (b : Shown) (q : Query) (due : ℕ) → asked.Pending due ≡ asked_of b q → (bad_query (project_of b) q ≡ None) × (due ≢ 0)
pending_good b q due h = pending_of (bad_query (project_of b) q) (pending b q) due (version_of b) (answer (project_of b) q) h

-- nor is one that finds no memory
pub wanting_good : (b : Shown) (q : Query) → AsksAs b q asked.Memory → bad_query (project_of b) q ≡ None
wanting_good b q h = wanting_of (bad_query (project_of b) q) (told_unless (pending b q) (told (version_of b) (answer (project_of b) q))) h

-- an answer is that of the run, and so is a refusal
pub answers_at : (b : Shown) (q : Query) (r : Asked) → AsksAs b q r → AnswersAt (project_of b) (version_of b) q r
answers_at b q (asked.Answer v body) h = let a = answer_told b q v body h in (a.1, a.0)
answers_at b q (asked.BadQuery k) h = bad_told b q k h
answers_at b q (asked.Pending due) h = pending_good b q due h
answers_at b q asked.Memory h = wanting_good b q h
