-- What a session of the shell says of a run: what a subcommand prints of a file that is the session's project.
use Rattle.std.specs.Prelude.{◌≡◌, ◌⊎◌, ℕ, List, Option, None, Some, false, codes, string_bytes}
use Rattle.std.specs.List.{list_all}
use Rattle.std.specs.Str.{is_utf8}
use Rattle.clap.specs.Words.{subcommand_of}
use Rattle.project_book.specs.Project.{Project}
use Rattle.bench_shell.specs.declared.answer.Answer.TheVariants.{BadCommand}
use Rattle.lab_shell.specs.declared.clerk.Said.{Said}
use Rattle.lab_shell.specs.declared.clerk.Said.TheVariants.{Text, Refused, Unsaved}
use Rattle.lab_tasks.specs.Busy.{IsBusyText, IsNotBusy}
use Rattle.lab_tasks.specs.CommandLine.{lab}
use Rattle.lab_tasks.specs.Completions.{IsCompletionText}
use Rattle.lab_tasks.specs.Fullness.{IsFullText}
use Rattle.lab_tasks.specs.Gauged.{AreSeriesTexts, IsNoSeriesText}
use Rattle.lab_tasks.specs.Latencies.{IsLatencyText, IsNoCondition}
use Rattle.lab_tasks.specs.Orders.{IsNoOrder, IsOrderText}
use Rattle.lab_tasks.specs.Phrases.{phrases}
use Rattle.lab_tasks.specs.Subcommands.{end_answer, words_for, AreFaulty}
use Rattle.lab_tasks.specs.Traces.{IsNoTag, IsTraceText}
use Rattle.lab_tasks.specs.Words.{text_of, AsksFor}
use Rattle.lab_tasks.specs.declared.series.SeriesWords.{SeriesWords}
use Rattle.lab_tasks.specs.declared.trace.TraceWords.{TraceWords}
use Rattle.lab_tasks.specs.declared.end.End.{End}
use Rattle.lab_tasks.specs.declared.words.Asked.{Asked}
use Rattle.lab_tasks.specs.declared.words.Asked.TheVariants.{Map, Compare, Order, Latency, Done as Completed, Trace, Full, Series, Busy, Rates, Delays, Load, Sweep, Check, Convert, Page, Shell}

-- what is said is a text, and such a one
abbrev pub IsText : (List ℕ → Type 0) → Said → Type 0
IsText Is (Text text) = Is (string_bytes text)
IsText Is (Refused a) = ⊥
IsText Is Unsaved = ⊥

-- what is said is such a text, or it was refused for such an end
abbrev pub IsTold : (List ℕ → Type 0) → (End → Type 0) → Said → Type 0
IsTold Is IsNone (Text text) = Is (string_bytes text)
IsTold Is IsNone (Refused a) = (e : End) × IsNone e × (a ≡ end_answer e)
IsTold Is IsNone Unsaved = ⊥

-- what is said to words of `trace`; no picture is drawn for those that name a file
abbrev pub IsTraced : Option (List ℕ) → TraceWords → Project → Said → Type 0
IsTraced None words P said = IsTold (IsTraceText words P) (IsNoTag P words) said
IsTraced (Some out) words P said = said ≡ Refused BadCommand

-- the table of some gauges; and what is said to words of `series`, none for those that name a file
abbrev pub IsSeriesTable : SeriesWords → Project → List ℕ → Type 0
IsSeriesTable words P text = (picture : List ℕ) × AreSeriesTexts words P text picture

abbrev pub IsSeriesTold : Option (List ℕ) → Option (List ℕ) → SeriesWords → Project → Said → Type 0
IsSeriesTold None None words P said = IsTold (IsSeriesTable words P) (IsNoSeriesText words P) said
IsSeriesTold (Some csv) out words P said = said ≡ Refused BadCommand
IsSeriesTold None (Some out) words P said = said ≡ Refused BadCommand

-- what is said where this is asked of the project; a subcommand that is no report is refused
abbrev pub IsAnswered : Project → Asked → Said → Type 0
IsAnswered P (Order words) said = IsTold (IsOrderText words P) (IsNoOrder P words) said
IsAnswered P (Latency words) said = IsTold (IsLatencyText words P) (IsNoCondition P words) said
IsAnswered P (Completed file) said = IsText (IsCompletionText P) said
IsAnswered P (Trace words) said = IsTraced (text_of words.out) words P said
IsAnswered P (Full file) said = IsText (IsFullText P) said
IsAnswered P (Map words) said = said ≡ Refused BadCommand
IsAnswered P (Compare words) said = said ≡ Refused BadCommand
IsAnswered P (Series words) said = IsSeriesTold (text_of words.csv) (text_of words.out) words P said
IsAnswered P (Busy words) said = IsTold (IsBusyText words P) (IsNotBusy P words) said
IsAnswered P (Rates words) said = said ≡ Refused BadCommand
IsAnswered P (Delays words) said = said ≡ Refused BadCommand
IsAnswered P (Load words) said = said ≡ Refused BadCommand
IsAnswered P (Sweep words) said = said ≡ Refused BadCommand
IsAnswered P (Check file) said = said ≡ Refused BadCommand
IsAnswered P (Convert words) said = said ≡ Refused BadCommand
IsAnswered P (Page words) said = said ≡ Refused BadCommand
IsAnswered P (Shell words) said = said ≡ Refused BadCommand

-- what is said to the words of a subcommand; they are no command where `clap` finds a fault in them
abbrev pub IsToldBy : Project → List (List ℕ) → Said → Type 0
IsToldBy P words said =
    ((asked : Asked) × AsksFor (subcommand_of lab words) asked × IsAnswered P asked said) ⊎ (AreFaulty words × (said ≡ Refused BadCommand))

abbrev pub AreNoTexts : List (List ℕ) → Said → Type 0
AreNoTexts words said = (list_all is_utf8 words ≡ false) × (said ≡ Refused BadCommand)

-- WHAT IS SAID: to a request with these words what the subcommand of a name is told by them; they are no command where they aren't
-- UTF-8
abbrev pub IsReported : Project → List ℕ → List (List ℕ) → Said → Type 0
IsReported P name words said = IsToldBy P (words_for name words) said ⊎ AreNoTexts words said

-- to `series` what the subcommand is told by the texts that the words are, so that a gauge of several words is one
abbrev pub IsSeriesReported : Project → List (List ℕ) → Said → Type 0
IsSeriesReported P words said = IsToldBy P (words_for (codes "series") (phrases words)) said ⊎ AreNoTexts words said
