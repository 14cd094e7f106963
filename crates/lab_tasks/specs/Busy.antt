-- What `busy` says of a run, and why it doesn't.
use Rattle.std.specs.Prelude.{◌≡◌, ℕ, List}
use Rattle.project_book.specs.Project.{Project}
use Rattle.machine_cells.specs.Run.{run}
use Rattle.machine_cells.specs.Runs.{state_in}
use Rattle.run_reports.specs.declared.condition.Window.{Window}
use Rattle.run_reports.specs.Utilisation.{busy_text}
use Rattle.lab_tasks.specs.declared.busy.BusyWords.{BusyWords}
use Rattle.lab_tasks.specs.declared.end.End.{End}
use Rattle.lab_tasks.specs.Cycles.{AreCycles, AreNoCycles}
use Rattle.lab_tasks.specs.Words.{text_of}

-- the report of how busy the stages and the modules were in the cycles that the words name
abbrev pub IsBusyText : BusyWords → Project → List ℕ → Type 0
IsBusyText words P text =
    (w : Window) × AreCycles P (text_of words.from) (text_of words.to) w.from w.to × (text ≡ busy_text P.k (state_in (run P)) w)

-- why there is none
abbrev pub IsNotBusy : Project → BusyWords → End → Type 0
IsNotBusy P words end = AreNoCycles P (text_of words.from) (text_of words.to) end
