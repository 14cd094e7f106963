-- What `full` says of a run.
use Rattle.std.specs.Prelude.{◌≡◌, ℕ, List}
use Rattle.project_book.specs.Project.{Project}
use Rattle.machine_cells.specs.Run.{run}
use Rattle.machine_cells.specs.Runs.{state_in}
use Rattle.run_reports.specs.FullQueues.{first_fulls}
use Rattle.run_reports.specs.FullTexts.{full_text}

-- the report of which queues of the run were full, and at which cycle they first were
abbrev pub IsFullText : Project → List ℕ → Type 0
IsFullText P text = text ≡ full_text P.k P.horizon (first_fulls P (state_in (run P)))
