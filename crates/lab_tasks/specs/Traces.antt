-- Of which reference `trace` says where it was, and why it doesn't.
use Rattle.std.specs.Prelude.{◌≡◌, ◌-◌, ℕ, List, Option, None, Some, codes}
use Rattle.omega_net.specs.declared.message.Tag.{Tag}
use Rattle.omega_net.specs.Numbers.{lines}
use Rattle.project_book.specs.Project.{Project}
use Rattle.machine_cells.specs.Run.{run}
use Rattle.machine_cells.specs.Runs.{state_in}
use Rattle.run_reports.specs.declared.spans.Span.{Span}
use Rattle.run_reports.specs.Traces.{trace}
use Rattle.run_reports.specs.TraceTexts.{trace_text}
use Rattle.report_pictures.specs.TracePictures.{IsTracePicture}
use Rattle.lab_tasks.specs.declared.end.End.{End}
use Rattle.lab_tasks.specs.declared.trace.TraceWords.{TraceWords}
use Rattle.lab_tasks.specs.Numbers.{IsTold, IsUntold}
use Rattle.lab_tasks.specs.Plans.{InTurn}
use Rattle.lab_tasks.specs.Words.{text_of}

-- the processor, and the number among its references, which is at most the horizon: it issues one in a cycle at most
abbrev pub IsIssuer : Project → TraceWords → ℕ → Type 0
IsIssuer P words n = IsTold (text_of words.processor) 0 0 (lines P.k - 1) n

abbrev pub IsNumber : Project → TraceWords → ℕ → Type 0
IsNumber P words n = IsTold (text_of words.number) 0 0 P.horizon n

-- the reference that the words name
abbrev pub IsTag : Project → TraceWords → Tag → Type 0
IsTag P words x = IsIssuer P words x.proc × IsNumber P words x.issue

-- why they name none: the first word that is refused
abbrev pub IsNoTag : Project → TraceWords → End → Type 0
IsNoTag P words end =
    InTurn (IsUntold (codes "P") (text_of words.processor) 0 (lines P.k - 1) end) (IsIssuer P words) (λ proc.
    IsUntold (codes "I") (text_of words.number) 0 P.horizon end)

-- its spans as a picture where a file is named for that, else as a line
abbrev pub IsLineOrPicture : Option (List ℕ) → ℕ → List ℕ → Tag → List Span → List ℕ → Type 0
IsLineOrPicture None k name x spans text = text ≡ trace_text k x spans
IsLineOrPicture (Some out) k name x spans text = IsTracePicture k name x spans text

-- the trace of that reference in the run
abbrev pub IsTraceText : TraceWords → Project → List ℕ → Type 0
IsTraceText words P text =
    (x : Tag) × IsTag P words x × IsLineOrPicture (text_of words.out) P.k words.file.now x (trace P (state_in (run P)) x) text
