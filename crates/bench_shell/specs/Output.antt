-- The output for an input: a line for each line.
use Rattle.std.specs.Prelude.{◌≡◌, ◌⊎◌, ℕ, ◌+◌, ◌<◌, ◌≤◌, Bool, true, false, List, [], ◌∷◌, ◌++◌, length, Option, None, Some, Result, Ok, Err, nat_lt, if◌then◌else◌}
use Rattle.std.specs.Io.KnownBytes.{Appends, Consumes, IsAtEnd}
use Rattle.project_book.specs.Edits.{accepts}
use Rattle.project_book.specs.Faults.{number_of}
use Rattle.project_book.specs.declared.fault.EditFault.{EditFault}
use Rattle.line_words.specs.Words.{words_of}
use Rattle.commands.specs.Commands.{command_of}
use Rattle.commands.specs.declared.command.Command.{Command}
use Rattle.commands.specs.declared.command.Command.TheVariants.{Edit, Query}
use Rattle.run_queries.specs.Queries.{bad_query}
use Rattle.run_queries.specs.Answers.{answer}
use Rattle.run_queries.specs.declared.body.Body.{Body}
use Rattle.bench_core.specs.Told.{MayFindSpent}
use Rattle.bench_shell.specs.Lines.{Line, Whole, Cut, lines_of}
use Rattle.bench_shell.specs.Store.{Store, version_in, edited_store}
use Rattle.bench_shell.specs.Text.{line_text}
use Rattle.bench_shell.specs.declared.fault.RunFault.{RunFault}
use Rattle.bench_shell.specs.declared.fault.RunFault.TheVariants.{Memory, Clock}
use Rattle.bench_shell.specs.declared.answer.Answer.{Answer}
use Rattle.bench_shell.specs.declared.answer.Answer.TheVariants.{Accepted, Refused, Told as Says, Bad, BadLine, BadCut, BadCommand}

abbrev pub edit_reply : Result (Unit {0}) EditFault → ℕ → Answer
edit_reply (Ok done) v = Accepted v
edit_reply (Err fault) v = Refused (number_of fault)

abbrev pub edit_after : Result (Unit {0}) EditFault → Store → Store → Store
edit_after (Ok done) old new = new
edit_after (Err fault) old new = old

abbrev pub query_reply : ℕ → Result Body ℕ → Answer
query_reply v (Ok body) = Says v body
query_reply v (Err n) = Bad n

-- what a command is answered with, and the store after it
abbrev pub reply : Store → Option Command → Answer
reply s None = BadCommand
reply s (Some (Edit e)) = edit_reply (accepts s.project (version_in s) e) (version_in s + 1)
reply s (Some (Query q)) = query_reply (version_in s) (answer s.project q)

abbrev pub after : Store → Option Command → Store
after s None = s
after s (Some (Edit e)) = edit_after (accepts s.project (version_in s) e) s (edited_store s e)
after s (Some (Query q)) = s

-- the command that a line is
abbrev pub command_in : Store → List ℕ → Option Command
command_in s line = command_of s.project.k (words_of line)

abbrev pub is_long : List ℕ → Bool
is_long line = nat_lt 4096 (length line)

-- the answer to each line in turn
abbrev pub output_lines : Store → List Line → List ℕ
output_lines s [] = []
output_lines s (Whole l ∷ ls) =
    if is_long l then line_text BadLine ++ output_lines s ls
    else line_text (reply s (command_in s l)) ++ output_lines (after s (command_in s l)) ls
output_lines s (Cut l ∷ ls) = line_text (if is_long l then BadLine else BadCut) ++ output_lines s ls

-- THE OUTPUT: what is written for an input by a desk with this store
abbrev pub output : Store → List ℕ → List ℕ
output s bytes = output_lines s (lines_of bytes)

-- the store after each line in turn
abbrev pub after_lines : Store → List Line → Store
after_lines s [] = s
after_lines s (Whole l ∷ ls) = if is_long l then after_lines s ls else after_lines (after s (command_in s l)) ls
after_lines s (Cut l ∷ ls) = after_lines s ls

-- THE STORE AFTERWARDS: that of a desk which has obeyed an input
abbrev pub store_after : Store → List ℕ → Store
store_after s bytes = after_lines s (lines_of bytes)

-- All was read to its end, the output was written, and the store is that after it.
abbrev pub AnswersAll : Option (List ℕ) → Option (List ℕ) → Option (List ℕ) → Option (List ℕ) → Store → Store → Type 0
AnswersAll reader reader' writer writer' s t =
    (read : List ℕ) × Consumes reader reader' read × IsAtEnd reader' × Appends writer writer' (output s read) × (t ≡ store_after s read)

-- a command that can find the clock at its last value: an edit that is accepted, a query that may find it so
abbrev pub TakesClock : Store → Option Command → Type 0
TakesClock s (Some (Edit e)) = accepts s.project (version_in s) e ≡ Ok tt
TakesClock s (Some (Query q)) = MayFindSpent s.project q
TakesClock s _ = ⊥

-- one that can find no memory: an edit that is accepted, where the clock isn't spent, and a query whose own numbers give no reason
-- against it
abbrev pub TakesMemory : Type 0 → Store → Option Command → Type 0
TakesMemory spent s (Some (Edit e)) = (accepts s.project (version_in s) e ≡ Ok tt) × (spent → ⊥)
TakesMemory spent s (Some (Query q)) = bad_query s.project q ≡ None
TakesMemory spent s None = ⊥

-- a command for which a run may stop with this fault
abbrev pub MayStop : Type 0 → RunFault → Store → Option Command → Type 0
MayStop spent Memory s c = TakesMemory spent s c
MayStop spent Clock s c = spent × TakesClock s c
MayStop spent fault s c = Unit {0}

-- an answer with a body, which may be long
abbrev pub has_body : Answer → Bool
has_body (Says v body) = true
has_body _ = false

-- the first line is whole, with such bytes
abbrev pub FirstIs : (List ℕ → Type 0) → List Line → Type 0
FirstIs P (Whole l ∷ ls) = P l
FirstIs P _ = ⊥

-- it is a command for which the run may stop with this fault
abbrev pub StopsAt : Type 0 → RunFault → Store → List Line → Type 0
StopsAt spent fault s ls = FirstIs (λ l. (is_long l ≡ false) × MayStop spent fault s (command_in s l)) ls

-- its answer has a body
abbrev pub AnswersBody : Store → List Line → Type 0
AnswersBody s ls = FirstIs (λ l. (is_long l ≡ false) × (has_body (reply s (command_in s l)) ≡ true)) ls

-- Why a run stops with this fault, which has obeyed a line, or none, and not what follows: for a spent clock only at a
-- command that can find it so; for want of memory at one that can find none, or with the text of an answer that has a body.
abbrev pub StopsBy : Type 0 → RunFault → Store → List ℕ → List ℕ → Type 0
StopsBy spent Memory s line rest = AnswersBody s (lines_of line) ⊎ StopsAt spent Memory s (lines_of rest)
StopsBy spent Clock s line rest = (line ≡ []) × StopsAt spent Clock s (lines_of rest)
StopsBy spent fault s line rest = Unit {0}

-- Where a run stops: it has answered what stands in `before`, has written a beginning of the answer to one line more at
-- most, and has done nothing about the rest of what it read. What was written is a beginning of the whole output.
pub record StopsIn (spent : Type 0) (fault : RunFault) (s : Store) (read written : List ℕ) (t : Store) : Type 0 where
  pub before : List ℕ
  pub line : List ℕ
  pub rest : List ℕ
  pub part : List ℕ
  pub missing : List ℕ
  pub is_read : read ≡ before ++ (line ++ rest)
  pub one_line : length (lines_of line) ≤ 1
  pub is_written : written ≡ output s before ++ part
  pub answer : output (store_after s before) line ≡ part ++ missing
  pub is_store : t ≡ store_after (store_after s before) line
  pub why : StopsBy spent fault (store_after s before) line rest
  pub begins : (later : List ℕ) × (output s read ≡ written ++ later)

-- A part was read, from the beginning, and the run has stopped in it with this fault (spent: the clock is then).
abbrev pub AnswersPart : Type 0 → RunFault → Option (List ℕ) → Option (List ℕ) → Option (List ℕ) → Option (List ℕ) → Store → Store → Type 0
AnswersPart spent fault reader reader' writer writer' s t =
    (read written : List ℕ) × Consumes reader reader' read × Appends writer writer' written × StopsIn spent fault s read written t

-- an answer that rests on the edits so far: its line begins with `ok`
abbrev pub is_ok : Answer → Bool
is_ok (Accepted v) = true
is_ok (Says v body) = true
is_ok _ = false

abbrev pub none_ok : List Answer → Bool
none_ok [] = true
none_ok (a ∷ answers) = if is_ok a then false else none_ok answers

-- the lines of these answers
abbrev pub lines_text : List Answer → List ℕ
lines_text [] = []
lines_text (a ∷ answers) = line_text a ++ lines_text answers

-- what was written for this input where others may have edited: the output for some of its first lines, and then one line
-- for each of the others, none of which begins with `ok`. So all lines through the last `ok ..` are those of the output.
pub record IsOwnToOk (s : Store) (read written : List ℕ) : Type 0 where
  pub before : List ℕ
  pub rest : List ℕ
  pub answers : List Answer
  pub is_read : read ≡ before ++ rest
  pub at_line : lines_of read ≡ lines_of before ++ lines_of rest
  pub is_written : written ≡ output s before ++ lines_text answers
  pub no_ok : none_ok answers ≡ true
  pub one_each : length answers ≡ length (lines_of rest)

-- All was read to its end, and that was written.
abbrev pub AnswersOwn : Option (List ℕ) → Option (List ℕ) → Option (List ℕ) → Option (List ℕ) → Store → Type 0
AnswersOwn reader reader' writer writer' s =
    (read written : List ℕ) × Consumes reader reader' read × IsAtEnd reader' × Appends writer writer' written × IsOwnToOk s read written
