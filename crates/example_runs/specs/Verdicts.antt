-- What is said of a session, and the status with which the program ends.
use Rattle.std.specs.Prelude.{◌≡◌, ℕ, List}
use Rattle.project_book.specs.Project.{Project}
use Rattle.bench_shell.specs.Output.{output}
use Rattle.bench_shell.specs.Store.{first_store}
use Rattle.example_runs.specs.declared.verdict.Verdict.{Verdict}
use Rattle.example_runs.specs.declared.verdict.Verdict.TheVariants.{AsExpected, Differs, NotRead, NotRun}

-- what is expected is the output of the commands at a bench on the project, or isn't
abbrev pub Judges : Project → List ℕ → List ℕ → Verdict → Type 0
Judges P commands expected AsExpected = expected ≡ output (first_store P) commands
Judges P commands expected Differs = ¬ (expected ≡ output (first_store P) commands)
Judges P commands expected _ = Unit {0}

-- the status after one session more: 1 from the first on that isn't as expected
abbrev pub status_after : ℕ → Verdict → ℕ
status_after status AsExpected = status
status_after status _ = 1
