-- What a word of a sweep asks for: a question of the workbench, or a report of numbers; and why it asks for nothing.
use Rattle.std.specs.Prelude.{◌≡◌, ◌⊎◌, ℕ, List, [], ◌∷◌, ◌++◌, Option, None, Some, is_some, false, codes, decimal}
use Rattle.std.specs.List.{list_all}
use Rattle.std.specs.Str.{is_utf8}
use Rattle.clap.specs.Words.{subcommand_of}
use Rattle.line_words.specs.Words.{words_of}
use Rattle.project_book.specs.Project.{Project}
use Rattle.commands.specs.Commands.{command_of}
use Rattle.commands.specs.declared.command.Command.{Command}
use Rattle.commands.specs.declared.command.Command.TheVariants as command
use Rattle.run_queries.specs.Queries.{bad_query}
use Rattle.bench_shell.specs.declared.answer.Answer.{Answer}
use Rattle.bench_shell.specs.declared.answer.Answer.TheVariants.{Bad, BadCommand}
use Rattle.lab_tasks.specs.declared.asking.Asking.{Asking}
use Rattle.lab_tasks.specs.declared.asking.Asking.TheVariants as asking
use Rattle.lab_tasks.specs.declared.asking.LatencyAsk.{LatencyAsk}
use Rattle.lab_tasks.specs.declared.end.End.{End}
use Rattle.lab_tasks.specs.declared.latency.LatencyWords.{LatencyWords}
use Rattle.lab_tasks.specs.declared.words.Asked.{Asked}
use Rattle.lab_tasks.specs.declared.words.Asked.TheVariants.{Latency, Done, Full}
use Rattle.lab_tasks.specs.CommandLine.{lab}
use Rattle.lab_tasks.specs.Ends.{Refuses, RefusesForm}
use Rattle.lab_tasks.specs.Latencies.{IsCondition, IsNoCondition}
use Rattle.lab_tasks.specs.Subcommands.{end_answer, words_for, AreFaulty}
use Rattle.lab_tasks.specs.Words.{text_of, AsksFor}

-- ---- reports

-- the references that words of `latency` ask for: the condition, the hot word or all others, and whether their last cycle is told
pub record IsLatencyAsk (P : Project) (words : LatencyWords) (ask : LatencyAsk) : Type 0 where
  pub condition : IsCondition P words ask.condition
  pub hot : ask.hot ≡ words.hot
  pub cold : ask.cold ≡ words.cold
  pub ends : ask.ends ≡ is_some (text_of words.to)

-- the report that a subcommand asks for, of those that are numbers; and what it is answered where it is none
abbrev pub IsReport : Project → Asked → Asking → Type 0
IsReport P (Latency words) (asking.Latency ask) = IsLatencyAsk P words ask
IsReport P (Done file) asking.Done = Unit {0}
IsReport P (Full file) asking.Full = Unit {0}
IsReport P asked other = ⊥

abbrev pub IsNoLatency : Project → LatencyWords → Answer → Type 0
IsNoLatency P words a = (e : End) × IsNoCondition P words e × (a ≡ end_answer e)

abbrev pub IsNoReport : Project → Asked → Answer → Type 0
IsNoReport P (Latency words) a = IsNoLatency P words a
IsNoReport P (Done file) a = ⊥
IsNoReport P (Full file) a = ⊥
IsNoReport P asked a = a ≡ BadCommand

-- the report that the words of a subcommand ask for, and what they are answered where they ask for none or `clap` finds a fault in them
abbrev pub IsReportBy : Project → List (List ℕ) → Asking → Type 0
IsReportBy P words what = (asked : Asked) × AsksFor (subcommand_of lab words) asked × IsReport P asked what

abbrev pub IsNoReportBy : Project → List (List ℕ) → Answer → Type 0
IsNoReportBy P words a =
    (AreFaulty words × (a ≡ BadCommand)) ⊎ ((asked : Asked) × AsksFor (subcommand_of lab words) asked × IsNoReport P asked a)

-- the words of the subcommand that a line's words are; there are none where the line has none, or they aren't UTF-8
abbrev pub report_words : List (List ℕ) → List (List ℕ)
report_words [] = []
report_words (name ∷ words) = words_for name words

abbrev pub AreUnread : List (List ℕ) → Type 0
AreUnread words = (words ≡ []) ⊎ (list_all is_utf8 words ≡ false)

abbrev pub IsReportIn : Project → List (List ℕ) → Asking → Type 0
IsReportIn P words what = IsReportBy P (report_words words) what

abbrev pub IsNoReportIn : Project → List (List ℕ) → Answer → Type 0
IsNoReportIn P words a = (AreUnread words × (a ≡ BadCommand)) ⊎ IsNoReportBy P (report_words words) a

-- ---- questions and reports

-- what a word asks for, of a project that answers it
abbrev pub IsAskedBy : Project → List ℕ → Option Command → Asking → Type 0
IsAskedBy P word (Some (command.Query query)) what = (what ≡ asking.Query query) × (bad_query P query ≡ None)
IsAskedBy P word other what = IsReportIn P (words_of word) what

abbrev pub IsAsked : Project → List ℕ → Asking → Type 0
IsAsked P word what = IsAskedBy P word (command_of P.k (words_of word)) what

-- why a word asks for nothing
abbrev pub ask_wanted : List ℕ
ask_wanted = codes "a question, as 'tree low 0', or a report of numbers, as 'latency'"

abbrev pub RefusesAs : List ℕ → Answer → End → Type 0
RefusesAs word (Bad n) end = Refuses (codes "--ask") word 7 (codes "is answered bad " ++ decimal n) end
RefusesAs word a end = RefusesForm (codes "--ask") word ask_wanted end

abbrev pub RefusesQuery : List ℕ → Option ℕ → End → Type 0
RefusesQuery word None end = ⊥
RefusesQuery word (Some n) end = RefusesAs word (Bad n) end

abbrev pub RefusesReport : Project → List ℕ → End → Type 0
RefusesReport P word end = (a : Answer) × IsNoReportIn P (words_of word) a × RefusesAs word a end

abbrev pub RefusesAsk : Project → List ℕ → Option Command → End → Type 0
RefusesAsk P word (Some (command.Query query)) end = RefusesQuery word (bad_query P query) end
RefusesAsk P word other end = RefusesReport P word end
