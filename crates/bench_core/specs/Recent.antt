-- The answers that a bench keeps.
use Rattle.std.specs.Prelude.{◌≡◌, ℕ, ◌≤◌, List, Ok, Contains}
use Rattle.project_book.specs.Project.{Project}
use Rattle.run_queries.specs.declared.body.Body.{Body}
use Rattle.run_queries.specs.Answers.{answer}
use Rattle.bench_core.specs.declared.recent.Asking.{Asking}

-- a query with the version at which it was asked, and what was told
abbrev pub Entry : Type 0
Entry = Asking × Body

-- at version v of a project each was told at an earlier version, or is what the project's run says
abbrev pub AreTold : Project → ℕ → List Entry → Type 0
AreTold P v kept = (a : Entry) → Contains kept a → (a.0.version ≤ v) × (a.0.version ≡ v → answer P a.0.query ≡ Ok a.1)
