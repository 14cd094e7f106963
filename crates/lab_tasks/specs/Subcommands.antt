-- The words of a subcommand that a line has, and what it is answered where they are refused.
use Rattle.std.specs.Prelude.{◌||◌, ℕ, List, ◌∷◌, codes, bytes_eq, if◌then◌else◌}
use Rattle.clap.specs.Kinds.{IsAmong}
use Rattle.clap.specs.Words.{fault_of}
use Rattle.clap.specs.declared.error.kind.ErrorKind.{ErrorKind}
use Rattle.bench_shell.specs.declared.answer.Answer.{Answer}
use Rattle.bench_shell.specs.declared.answer.Answer.TheVariants.{Bad, BadCommand}
use Rattle.lab_tasks.specs.CommandLine.{lab}
use Rattle.lab_tasks.specs.declared.end.End.{End}
use Rattle.lab_tasks.specs.declared.end.End.TheVariants as end
use Rattle.lab_tasks.specs.declared.end.Reason.{Reason}
use Rattle.lab_tasks.specs.declared.end.Reason.TheVariants as reason

-- what a number is answered that isn't within what there is: of a processor, of a reference, and of a cycle, as the bench does
abbrev pub bad_number : List ℕ → ℕ
bad_number option =
    if bytes_eq option (codes "P") || bytes_eq option (codes "--processor") then 1
    else if bytes_eq option (codes "I") then 4
    else 2

-- what a word is answered that is refused, and what an end is
abbrev pub word_answer : List ℕ → Reason → Answer
word_answer option (reason.Form wanted) = BadCommand
word_answer option (reason.Within least most) = Bad (bad_number option)
word_answer option reason.Backwards = Bad 5
word_answer option (reason.Refused n) = Bad n
word_answer option (reason.RefusedEdit n) = BadCommand
word_answer option reason.Source = BadCommand
word_answer option (reason.NoProject fault) = BadCommand
word_answer option (reason.OtherSize k) = BadCommand

abbrev pub end_answer : End → Answer
end_answer (end.Word option word why) = word_answer option.now why
end_answer end.Done = BadCommand
end_answer end.Words = BadCommand
end_answer (end.NotRead name) = BadCommand
end_answer (end.NotWritten name) = BadCommand
end_answer (end.Project fault) = BadCommand
end_answer end.Memory = BadCommand
end_answer end.Spent = BadCommand
end_answer end.Output = BadCommand

-- the words of a subcommand: its name, a file, which isn't read, and those behind its name
abbrev pub words_for : List ℕ → List (List ℕ) → List (List ℕ)
words_for name words = name ∷ codes "FILE" ∷ words

-- `clap` finds a fault in them
abbrev pub AreFaulty : List (List ℕ) → Type 0
AreFaulty words = (kind : ErrorKind) × IsAmong kind (fault_of lab words)
