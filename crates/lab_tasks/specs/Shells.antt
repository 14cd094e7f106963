-- What a session of the shell says of projects, and how it ends.
use Rattle.std.specs.Prelude.{◌≡◌, ◌⊎◌, ℕ, Bool, true, List, [], ◌++◌, Option, None, Some, Result, Ok, Err, codes, decimal, nat_lt, string_bytes, if◌then◌else◌}
use Rattle.std.specs.Borrow.{Bor}
use Rattle.std.specs.List.{flat_map}
use Rattle.omega_net.specs.Numbers.{lines}
use Rattle.omega_net.specs.Wires.{below}
use Rattle.omega_net.specs.declared.script.ScriptEntry.{ScriptEntry}
use Rattle.line_words.specs.Numbers.{number_of}
use Rattle.project_book.specs.Project.{Project, blank, length_at, entry_at}
use Rattle.project_book.specs.EntryTexts.{entry_text}
use Rattle.project_file.specs.Filed.{filed}
use Rattle.bench_shell.specs.declared.answer.Answer.{Answer}
use Rattle.bench_shell.specs.declared.answer.Answer.TheVariants.{Bad, BadCommand}
use Rattle.bench_shell.specs.declared.fault.RunFault.{RunFault}
use Rattle.bench_shell.specs.declared.fault.RunFault.TheVariants.{Read, Write, OtherEditor, Memory, Clock}
use Rattle.lab_shell.specs.declared.manner.Voice.{Voice}
use Rattle.lab_shell.specs.declared.manner.Voice.TheVariants as voice
use Rattle.lab_shell.specs.declared.manner.Ended.{Ended}
use Rattle.lab_shell.specs.declared.manner.Ended.TheVariants as ended
use Rattle.lab_shell.specs.declared.word.ShellWord.{ShellWord}
use Rattle.lab_shell.specs.declared.word.ShellWord.TheVariants.{Quit, Help, HelpOn, Show, Script, Save, Undo, Latency, Done, Trace, Full, Busy, Series, OrderAll}
use Rattle.lab_shell.specs.declared.clerk.Said.{Said}
use Rattle.lab_shell.specs.declared.clerk.Said.TheVariants.{Text, Refused, Unsaved}
use Rattle.lab_shell.specs.Words.{first_word}
use Rattle.lab_tasks.specs.declared.end.End.{End}
use Rattle.lab_tasks.specs.declared.end.End.TheVariants as end
use Rattle.lab_tasks.specs.Summaries.{IsSummary}
use Rattle.lab_tasks.specs.Done.{IsConverted, IsNotMade}
use Rattle.lab_tasks.specs.ShellReports.{IsReported, IsSeriesReported, IsText}

-- the words of an entry, the edit that makes it, and the edits that make a script
abbrev pub entry_words : Option ScriptEntry → List ℕ
entry_words None = []
entry_words (Some entry) = entry_text entry

abbrev pub entry_line : Project → ℕ → ℕ → List ℕ
entry_line P p i = codes "entry " ++ (decimal p ++ (codes " " ++ (decimal i ++ (codes " " ++ (entry_words (entry_at P p i) ++ codes "\n")))))

abbrev pub script_said : Project → ℕ → List ℕ
script_said P p = flat_map (entry_line P p) (below (length_at P p))

-- what is said to `script P`: a text, or why not
abbrev pub script_answer : Project → Option ℕ → Result (List ℕ) Answer
script_answer P None = Err BadCommand
script_answer P (Some p) = if nat_lt p (lines P.k) then Ok (script_said P p) else Err (Bad 1)

abbrev pub Gives : Result (List ℕ) Answer → Said → Type 0
Gives (Ok text) (Text said) = string_bytes said ≡ text
Gives (Err a) (Refused b) = b ≡ a
Gives given said = ⊥

-- what a shelf may do with a file of this name and these bytes: whether it was written
abbrev pub Saves : Type 1
Saves = List ℕ → List ℕ → Bool → Type 0

-- what is said to `save F`: the file was written, and is the project's; or it wasn't
abbrev pub IsSaved : Saves → Project → List ℕ → Said → Type 0
IsSaved saves P name said =
    ((bytes : List ℕ) × IsConverted P bytes × saves name bytes true × IsText (λ text. text ≡ codes "saved " ++ (name ++ codes "\n")) said)
    ⊎ (said ≡ Unsaved)

-- what is said to a request of the shell with these words behind it; a clerk isn't asked the last four, and saves nothing for them
abbrev pub IsSaid : Saves → Project → ShellWord → List (List ℕ) → Said → Type 0
IsSaid saves P Show words said = IsText (IsSummary P) said
IsSaid saves P Script words said = Gives (script_answer P (number_of (first_word words))) said
IsSaid saves P Save words said = IsSaved saves P (first_word words) said
IsSaid saves P Latency words said = IsReported P (codes "latency") words said
IsSaid saves P Done words said = IsReported P (codes "done") words said
IsSaid saves P Trace words said = IsReported P (codes "trace") words said
IsSaid saves P Full words said = IsReported P (codes "full") words said
IsSaid saves P Busy words said = IsReported P (codes "busy") words said
IsSaid saves P Series words said = IsSeriesReported P words said
IsSaid saves P OrderAll words said = IsReported P (codes "order") [] said
IsSaid saves P Quit words said = said ≡ Unsaved
IsSaid saves P Help words said = said ≡ Unsaved
IsSaid saves P HelpOn words said = said ≡ Unsaved
IsSaid saves P Undo words said = said ≡ Unsaved

-- for whom a session answers: for a program where JSON is asked for, else for people at a terminal
abbrev pub voice_of : Bool → Bool → Voice
voice_of json at_terminal = if json then voice.Json else if at_terminal then voice.People else voice.Plain

-- the status of a session that ended so
abbrev pub status_of_session : Ended → ℕ
status_of_session ended.Input = 0
status_of_session ended.Quit = 0
status_of_session ended.Refused = 1

-- how the program ends after a fault of a session
abbrev pub IsEndAfter : RunFault → End → Type 0
IsEndAfter Read e = (name : Bor (List ℕ)) × (e ≡ end.NotRead name) × (name.now ≡ codes "standard input")
IsEndAfter Write e = e ≡ end.Output
IsEndAfter OtherEditor e = e ≡ end.Spent
IsEndAfter Memory e = e ≡ end.Memory
IsEndAfter Clock e = e ≡ end.Spent

-- the project of a session: that of its file, which has these bytes, or without a file the built-in one: one processor, one
-- module, the horizon 8
abbrev pub IsOpened : Option (List ℕ) → List ℕ → Project → Type 0
IsOpened None bytes P = P ≡ blank 0 8
IsOpened (Some name) bytes P = filed bytes ≡ Ok P

-- why there is none: no memory, or the file is no project
abbrev pub IsNotOpened : Option (List ℕ) → List ℕ → End → Type 0
IsNotOpened None bytes e = e ≡ end.Memory
IsNotOpened (Some name) bytes e = IsNotMade bytes (λ P. ⊥) e
