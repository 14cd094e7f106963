-- What a session writes for the lines that it reads.
use Rattle.std.specs.Prelude.{◌≡◌, ◌⊎◌, ℕ, Bool, true, false, ◌&&◌, ◌||◌, not, List, [], ◌∷◌, ◌++◌, Option, None, Some, IfSome, MatchOption, is_some, codes, string_bytes, if◌then◌else◌}
use Rattle.std.specs.List.{list_all}
use Rattle.std.specs.Io.KnownBytes.{Appends, Consumes, IsAtEnd}
use Rattle.project_book.specs.Project.{Project}
use Rattle.project_book.specs.declared.edit.Edit.{Edit}
use Rattle.line_words.specs.Words.{words_of}
use Rattle.bench_shell.specs.Lines.{Line, Whole, Cut, lines_of}
use Rattle.bench_shell.specs.Store.{Store}
use Rattle.bench_shell.specs.Text.{line_text}
use Rattle.bench_shell.specs.Output.{is_long, is_ok, reply, command_in, output, store_after}
use Rattle.bench_shell.specs.declared.answer.Answer.{Answer}
use Rattle.bench_shell.specs.declared.answer.Answer.TheVariants.{BadLine, BadCut, BadCommand}
use Rattle.lab_shell.specs.declared.manner.Manner.{Manner}
use Rattle.lab_shell.specs.declared.manner.Voice.{Voice}
use Rattle.lab_shell.specs.declared.manner.Voice.TheVariants.{Plain, People, Json}
use Rattle.lab_shell.specs.declared.manner.Seat.{Seat}
use Rattle.lab_shell.specs.declared.manner.Seat.TheVariants.{Alone, First, Later}
use Rattle.lab_shell.specs.declared.manner.Ended.{Ended}
use Rattle.lab_shell.specs.declared.manner.Ended.TheVariants as ended
use Rattle.lab_shell.specs.declared.word.ShellWord.{ShellWord}
use Rattle.lab_shell.specs.declared.word.ShellWord.TheVariants.{Quit, Help, HelpOn, Show, Script, Save, Undo, Latency, Done, Trace, Full, Busy, Series, OrderAll}
use Rattle.lab_shell.specs.declared.clerk.Said.{Said}
use Rattle.lab_shell.specs.declared.clerk.Said.TheVariants.{Text, Refused, Unsaved}
use Rattle.lab_shell.specs.Words.{request_of}
use Rattle.lab_shell.specs.Ranges.{lines_of_range}
use Rattle.lab_shell.specs.Sessions.{Session, held, after_line, after_undo, undo_answers}
use Rattle.lab_shell.specs.Reasons.{told_line}
use Rattle.lab_shell.specs.Json.{answer_object, seated, text_object}
use Rattle.lab_shell.specs.Hints.{slip_of}

-- what a clerk may say to a word, and to those behind it, about a project
abbrev pub Says : Type 1
Says = Project → ShellWord → List (List ℕ) → Said → Type 0

-- what a line asks the shell for, with the words behind the first one
abbrev pub request_in : Bool → Line → Option (ShellWord × List (List ℕ))
request_in people (Whole l) = if is_long l then None else request_of people (words_of l)
request_in people (Cut l) = None

-- the lines that a line stands for, by a range of processors; none where it has no range
abbrev pub lines_in : Line → List (List ℕ)
lines_in (Whole l) = if is_long l then [] else lines_of_range (words_of l)
lines_in (Cut l) = []

-- a line that ends with LF, or one that the end of the input cuts
abbrev pub line_at : Bool → List ℕ → Line
line_at true l = Whole l
line_at false l = Cut l

-- what `bench_shell` answers a line
abbrev pub answer_to : Store → Line → Answer
answer_to s (Whole l) = if is_long l then BadLine else reply s (command_in s l)
answer_to s (Cut l) = if is_long l then BadLine else BadCut

abbrev pub is_people : Voice → Bool
is_people Plain = false
is_people People = true
is_people Json = false

-- an answer as each reads it: the line, that with the reason behind it, or an object
abbrev pub answer_text : Voice → Seat → Answer → List ℕ
answer_text Plain seat a = line_text a
answer_text People seat a = told_line true a
answer_text Json seat a = seated seat (answer_object a)

-- what stands before the answers to a line that stands for several, and behind them: for a program they are one object
abbrev pub opening : Voice → List ℕ
opening Plain = []
opening People = []
opening Json = codes "{\"answers\":["

abbrev pub closing : Voice → List ℕ
closing Plain = []
closing People = []
closing Json = codes "]}\n"

abbrev pub several : Voice → List ℕ → List ℕ
several voice answers = opening voice ++ (answers ++ closing voice)

-- that a line is no command, with the name that one of its words may be where one is near
abbrev pub no_command_text : Option (List ℕ) → List ℕ
no_command_text None = told_line true BadCommand
no_command_text (Some name) = codes "bad command: there is no such command; is it " ++ (name ++ codes "?\n")

-- what people are told of words that are answered so, and of a line
abbrev pub people_told : List (List ℕ) → Answer → List ℕ
people_told words BadCommand = no_command_text (slip_of words)
people_told words a = told_line true a

abbrev pub people_text : Line → Answer → List ℕ
people_text (Whole l) a = people_told (words_of l) a
people_text (Cut l) a = told_line true a

-- and what anybody is
abbrev pub told_text : Voice → Seat → Line → Answer → List ℕ
told_text voice seat l a = if is_people voice then people_text l a else answer_text voice seat a

abbrev pub prompt : Voice → List ℕ
prompt voice = if is_people voice then codes "> " else []

-- how a line ends the session, if it does: it was refused in a strict one
abbrev pub stop_at : Manner → Bool → Option Ended
stop_at m is_bad = if m.strict && is_bad then Some ended.Refused else None

-- and where it isn't a request: the input is at its end where that cuts the line
abbrev pub stop_of : Manner → Line → Bool → Option Ended
stop_of m (Whole l) is_bad = stop_at m is_bad
stop_of m (Cut l) is_bad = Some (if m.strict then ended.Refused else ended.Input)

-- a text that is said to a request: as it is, or as an object
abbrev pub spoken : Voice → List ℕ → List ℕ
spoken Plain text = text
spoken People text = text
spoken Json text = text_object text

-- that a file wasn't written, and why
abbrev pub unsaved_text : Voice → List ℕ
unsaved_text Plain = codes "bad file\n"
unsaved_text People = codes "bad file: it can't be written\n"
unsaved_text Json = codes "{\"bad\":\"file\",\"why\":\"it can't be written\"}\n"

-- that a request with such words is refused, as of a line
abbrev pub refused_text : Voice → List (List ℕ) → Answer → List ℕ
refused_text voice words a = if is_people voice then people_told words a else answer_text voice Alone a

-- what is written where a clerk said this to such words
abbrev pub said_text : Voice → List (List ℕ) → Said → List ℕ
said_text voice words (Text text) = spoken voice (string_bytes text)
said_text voice words (Refused a) = refused_text voice words a
said_text voice words Unsaved = unsaved_text voice

abbrev pub is_refused : Said → Bool
is_refused (Text text) = false
is_refused (Refused a) = true
is_refused Unsaved = true

-- what a clerk answers
abbrev pub Clerked : Says → Manner → Session → ShellWord → List (List ℕ) → List ℕ → Session → Option Ended → Type 0
Clerked says m s word argument answer t stop =
    (said : Said) × says s.store.project word argument said × (answer ≡ said_text m.voice argument said) × (t ≡ s) × (stop ≡ stop_at m (is_refused said))

-- what is said where help is asked: some text
abbrev pub Helps : Manner → List ℕ → Option Ended → Type 0
Helps m answer stop = (text : List ℕ) × (answer ≡ spoken m.voice text) × (stop ≡ None)

-- and on a word: what it does, or that there is no such command
abbrev pub HelpsOn : Manner → List ℕ → Option Ended → Type 0
HelpsOn m answer stop = Helps m answer stop ⊎ ((answer ≡ answer_text m.voice Alone BadCommand) × (stop ≡ stop_at m true))

-- that nothing is left to take back
abbrev pub nothing_text : Voice → List ℕ
nothing_text Plain = line_text BadCommand
nothing_text People = codes "bad command: there is nothing to undo\n"
nothing_text Json = codes "{\"bad\":\"command\",\"why\":\"there is nothing to undo\"}\n"

-- answers one behind another
abbrev pub answers_text : Voice → Seat → List Answer → List ℕ
answers_text voice seat [] = []
answers_text voice seat (a ∷ more) = answer_text voice seat a ++ answers_text voice Later more

-- `undo`: the edits that take back the last one that was accepted and not yet taken back are made, and answered one by one
abbrev pub Undone : Manner → Session → List (List Edit) → List ℕ → Session → Option Ended → Type 0
Undone m s [] answer t stop = (answer ≡ nothing_text m.voice) × (t ≡ s) × (stop ≡ stop_at m true)
Undone m s (es ∷ undos) answer t stop =
    (answer ≡ several m.voice (answers_text m.voice First (undo_answers s.store es))) × (t ≡ after_undo s es undos)
    × (stop ≡ stop_at m (not (list_all is_ok (undo_answers s.store es))))

-- what is written for a request, the store afterwards, and how it ends the session. What help says isn't fixed here, but to
-- what is no command it is said that there is none.
abbrev pub Requested : Says → Manner → Session → ShellWord → List (List ℕ) → List ℕ → Session → Option Ended → Type 0
Requested says m s Quit argument answer t stop = (answer ≡ []) × (t ≡ s) × (stop ≡ Some ended.Quit)
Requested says m s Help argument answer t stop = (t ≡ s) × Helps m answer stop
Requested says m s HelpOn argument answer t stop = (t ≡ s) × HelpsOn m answer stop
Requested says m s Show argument answer t stop = Clerked says m s Show argument answer t stop
Requested says m s Script argument answer t stop = Clerked says m s Script argument answer t stop
Requested says m s Save argument answer t stop = Clerked says m s Save argument answer t stop
Requested says m s Undo argument answer t stop = Undone m s s.undos answer t stop
Requested says m s Latency argument answer t stop = Clerked says m s Latency argument answer t stop
Requested says m s Done argument answer t stop = Clerked says m s Done argument answer t stop
Requested says m s Trace argument answer t stop = Clerked says m s Trace argument answer t stop
Requested says m s Full argument answer t stop = Clerked says m s Full argument answer t stop
Requested says m s Busy argument answer t stop = Clerked says m s Busy argument answer t stop
Requested says m s Series argument answer t stop = Clerked says m s Series argument answer t stop
Requested says m s OrderAll argument answer t stop = Clerked says m s OrderAll argument answer t stop

-- what is written for a command
abbrev pub Obeyed : Manner → Seat → Session → Line → List ℕ → Session → Option Ended → Type 0
Obeyed m seat s l answer t stop =
    (answer ≡ told_text m.voice seat l (answer_to s.store l)) × (t ≡ after_line s l) × (stop ≡ stop_of m l (not (is_ok (answer_to s.store l))))

-- what is written for these commands in turn, up to the first that ends the session
abbrev pub InTurn : Manner → Seat → Session → List (List ℕ) → List ℕ → Session → Option Ended → Type 0
InTurn m seat s [] answer t stop = (answer ≡ []) × (t ≡ s) × (stop ≡ None)
InTurn m seat s (l ∷ ls) answer t stop =
    (first later : List ℕ) × (mid : Session) × (so : Option Ended) × Obeyed m seat s (Whole l) first mid so × (answer ≡ first ++ later)
    × MatchOption so (InTurn m Later mid ls later t stop) (λ how. (later ≡ []) × (t ≡ mid) × (stop ≡ Some how))

-- what is written for a line that is no request: for itself, or for the lines that it stands for
abbrev pub ObeyedAs : Manner → Session → Line → List (List ℕ) → List ℕ → Session → Option Ended → Type 0
ObeyedAs m s l [] answer t stop = Obeyed m Alone s l answer t stop
ObeyedAs m s l (first ∷ more) answer t stop =
    (answers : List ℕ) × (answer ≡ several m.voice answers) × InTurn m First s (first ∷ more) answers t stop

abbrev pub OneFor : Says → Manner → Session → Line → Option (ShellWord × List (List ℕ)) → List ℕ → Session → Option Ended → Type 0
OneFor says m s l None answer t stop = ObeyedAs m s l (lines_in l) answer t stop
OneFor says m s l (Some (word, argument)) answer t stop = Requested says m s word argument answer t stop

-- ONE LINE: what is written for it
abbrev pub One : Says → Manner → Session → Line → List ℕ → Session → Option Ended → Type 0
One says m s l answer t stop = OneFor says m s l (request_in (is_people m.voice) l) answer t stop

-- what is written for these lines in turn, none of which ends the session: each after the prompt
abbrev pub Goes : Says → Manner → Session → List Line → List ℕ → Session → Type 0
Goes says m s [] written t = (written ≡ []) × (t ≡ s)
Goes says m s (l ∷ ls) written t =
    (answer later : List ℕ) × (mid : Session) × One says m s l answer mid None
    × (written ≡ (prompt m.voice ++ answer) ++ later) × Goes says m mid ls later t

-- the last line ends the session so
pub record Stops (says : Says) (m : Manner) (s : Session) (lines : List Line) (written : List ℕ) (t : Session) (how : Ended) : Type 0 where
  pub before : List Line
  pub last : Line
  pub first : List ℕ
  pub answer : List ℕ
  pub mid : Session
  pub are_lines : lines ≡ before ++ last ∷ []
  pub goes : Goes says m s before first mid
  pub one : One says m mid last answer t (Some how)
  pub is_written : written ≡ first ++ (prompt m.voice ++ answer)

-- THE SESSION: what is written for a text, in which the session ends so
abbrev pub Talks : Says → Manner → Session → List ℕ → List ℕ → Session → Ended → Type 0
Talks says m s text written t ended.Input =
    ((first : List ℕ) × Goes says m s (lines_of text) first t × (written ≡ first ++ prompt m.voice))
    ⊎ Stops says m s (lines_of text) written t ended.Input
Talks says m s text written t ended.Quit = Stops says m s (lines_of text) written t ended.Quit
Talks says m s text written t ended.Refused = Stops says m s (lines_of text) written t ended.Refused

-- a reader whose bytes are known has none left
abbrev pub IsDrained : Option (List ℕ) → Option (List ℕ) → Type 0
IsDrained reader reader' = IfSome reader (λ bytes. IsAtEnd reader')

-- all was read where the input was at its end
abbrev pub IsAllRead : Ended → Option (List ℕ) → Option (List ℕ) → Type 0
IsAllRead ended.Input reader reader' = IsDrained reader reader'
IsAllRead ended.Quit reader reader' = Unit {0}
IsAllRead ended.Refused reader reader' = Unit {0}

-- a part was read from the beginning, all of it where the input was at its end, and that was written for it; before it there is
-- nothing to take back
abbrev pub Talked : Says → Manner → Option (List ℕ) → Option (List ℕ) → Option (List ℕ) → Option (List ℕ) → Store → Store → Ended → Type 0
Talked says m reader reader' writer writer' s t how =
    (read written : List ℕ) × (undos : List (List Edit)) × Consumes reader reader' read × IsAllRead how reader reader' × Appends writer writer' written
    × Talks says m (held s []) read written (held t undos) how

abbrev pub is_any : List (List ℕ) → Bool
is_any [] = false
is_any (l ∷ ls) = true

-- a line is a request where no people type, or has a range
abbrev pub is_own : Line → Bool
is_own l = is_some (request_in false l) || is_any (lines_in l)

-- no line is one of the shell's own
abbrev pub no_request : List Line → Bool
no_request [] = true
no_request (l ∷ ls) = if is_own l then false else no_request ls

-- where no line that was read is one of the shell's own: the output of the bench's shell was written, and its store is that after it
abbrev pub TalksPlainly : Option (List ℕ) → Option (List ℕ) → Option (List ℕ) → Option (List ℕ) → Store → Store → Type 0
TalksPlainly reader reader' writer writer' s t =
    (read : List ℕ) × Consumes reader reader' read
    × (no_request (lines_of read) ≡ true → Appends writer writer' (output s read) × (t ≡ store_after s read))
