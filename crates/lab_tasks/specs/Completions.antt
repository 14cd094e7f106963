-- What `done` says of a run.
use Rattle.std.specs.Prelude.{◌≡◌, ℕ, List}
use Rattle.project_book.specs.Project.{Project}
use Rattle.machine_cells.specs.Run.{run}
use Rattle.machine_cells.specs.Runs.{state_in}
use Rattle.run_reports.specs.Completions.{completions}
use Rattle.run_reports.specs.CompletionTexts.{completion_text}

-- the report of when each processor of the run had its last reply and came to the end of its script
abbrev pub IsCompletionText : Project → List ℕ → Type 0
IsCompletionText P text = text ≡ completion_text (completions P (state_in (run P)))
