-- How the program ends.
use Rattle.std.specs.Prelude.{◌≡◌, ℕ, List, [], ◌++◌, codes, decimal}
use Rattle.clap.specs.declared.error.kind.ErrorKind.{ErrorKind}
use Rattle.clap.specs.declared.error.kind.ErrorKind.TheVariants.{DisplayHelp, DisplayVersion, OutOfMemory}
use Rattle.project_book.specs.declared.fault.EditFault.TheVariants as edit_fault
use Rattle.project_file.specs.Faults.{number_of}
use Rattle.experiments.specs.declared.fault.Fault.{Fault}
use Rattle.experiments.specs.declared.fault.Fault.TheVariants as fault
use Rattle.lab_tasks.specs.declared.end.Reason.{Reason}
use Rattle.lab_tasks.specs.declared.end.Reason.TheVariants.{Form, Within, Backwards, Refused, RefusedEdit, Source, NoProject, OtherSize}
use Rattle.lab_tasks.specs.declared.end.End.{End}
use Rattle.lab_tasks.specs.declared.end.End.TheVariants.{Done, Words, Word, NotRead, NotWritten, Project, Memory, Spent, Output}

-- a word that isn't written as it should, or names the file that is read, is one of the command line; one may name a file that is no
-- project; the others have numbers outside of what there is
abbrev pub status_for : Reason → ℕ
status_for (Form wanted) = 2
status_for Source = 2
status_for (NoProject fault) = 4
status_for _ = 7

abbrev pub status_of : End → ℕ
status_of Done = 0
status_of Words = 2
status_of (Word option word reason) = status_for reason
status_of (NotRead name) = 3
status_of (NotWritten name) = 3
status_of (Project fault) = 4
status_of Memory = 5
status_of Spent = 5
status_of Output = 5

-- the end after a fault of a sweep's bench
abbrev pub end_for : Fault → End
end_for fault.Clock = Spent
end_for (fault.Edit edit_fault.ClockSpent) = Spent
end_for (fault.Edit edit_fault.JournalFull) = Spent
end_for _ = Memory

-- there was no memory, or the bench takes no more edits
abbrev pub IsStop : End → Type 0
IsStop Memory = Unit {0}
IsStop Spent = Unit {0}
IsStop _ = ⊥

-- the end after words that are no command line
abbrev pub end_of : ErrorKind → End
end_of DisplayHelp = Done
end_of DisplayVersion = Done
end_of OutOfMemory = Memory
end_of kind = Words

abbrev pub reason_text : Reason → List ℕ
reason_text (Form wanted) = codes "is not " ++ wanted.now
reason_text (Within least most) = codes "is not within " ++ decimal least ++ codes " to " ++ decimal most
reason_text Backwards = codes "ends before it begins"
reason_text (Refused n) = codes "is answered bad " ++ decimal n
reason_text (RefusedEdit n) = codes "is answered refused " ++ decimal n
reason_text Source = codes "is the file that is read; --force writes over it"
reason_text (NoProject fault) = codes "is refused as a project: " ++ decimal (number_of fault)
reason_text (OtherSize k) = codes "is not of k " ++ decimal k

-- the line on standard error
abbrev pub end_text : End → List ℕ
end_text Done = []
end_text Words = []
end_text (Word option word reason) = codes "lab: " ++ option.now ++ codes ": " ++ word.now ++ codes " " ++ reason_text reason
end_text (NotRead name) = codes "lab: cannot read " ++ name.now
end_text (NotWritten name) = codes "lab: cannot write " ++ name.now
end_text (Project fault) = codes "lab: project refused: " ++ decimal (number_of fault)
end_text Memory = codes "lab: no memory"
end_text Spent = codes "lab: the bench takes no more edits"
end_text Output = codes "lab: cannot write to standard output"

-- an end that refuses the word at an option, with this status and the reason that is printed
abbrev pub Refuses : List ℕ → List ℕ → ℕ → List ℕ → End → Type 0
Refuses option word status reason (Word o w r) = (o.now ≡ option) × (w.now ≡ word) × (status_for r ≡ status) × (reason_text r ≡ reason)
Refuses option word status reason _ = ⊥

-- for a word that isn't written so, and for one with a number that isn't within two others
abbrev pub RefusesForm : List ℕ → List ℕ → List ℕ → End → Type 0
RefusesForm option word wanted end = Refuses option word 2 (codes "is not " ++ wanted) end

abbrev pub RefusesRange : List ℕ → List ℕ → ℕ → ℕ → End → Type 0
RefusesRange option word least most end = Refuses option word 7 (codes "is not within " ++ decimal least ++ codes " to " ++ decimal most) end

abbrev pub RefusesBackwards : List ℕ → List ℕ → End → Type 0
RefusesBackwards option word end = Refuses option word 7 (codes "ends before it begins") end
