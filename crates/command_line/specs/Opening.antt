-- How the program begins, or why it ends before its first line.
use Rattle.std.specs.Prelude.{◌≡◌, ◌≢◌, ℕ, List, [], Option, None, Some, Result, Ok, Err}
use Rattle.std.specs.Io.KnownBytes.{Keeps}
use Rattle.clap.specs.Words.{Text, HasKind, fault_of, matches_of}
use Rattle.project_book.specs.Project.{Project, blank}
use Rattle.project_file.specs.Filed.{filed}
use Rattle.project_file.specs.declared.fault.ProjectFault.{ProjectFault}
use Rattle.project_file.specs.declared.fault.ProjectFault.TheVariants.{Memory}
use Rattle.bench_shell.specs.Store.{first_store}
use Rattle.bench_shell.specs.declared.fault.RunFault.{RunFault}
use Rattle.worker_sessions.specs.Serving.{Bytes, ServesTo}
use Rattle.worker_sessions.specs.declared.serving.NoStart.{NoStart}
use Rattle.worker_sessions.specs.declared.serving.Served.{Served as Session}
use Rattle.command_line.specs.Arguments.{hotspot, file_in, IsNumberHeld}
use Rattle.command_line.specs.Ends.{status_of, end_at}
use Rattle.command_line.specs.declared.end.End.{End}
use Rattle.command_line.specs.declared.end.End.TheVariants.{Ended, NoFile, Project as Refused, Served, CannotStart}
use Rattle.command_line.specs.declared.start.Stop.{Stop}
use Rattle.command_line.specs.declared.start.Stop.TheVariants as stop

-- what reading the file of a name may give: its bytes, or none where it can't be read
abbrev pub Gives : Type 1
Gives = Text → Option (List ℕ) → Type 0

-- the words are a command line
abbrev pub IsTaken : List Text → Type 0
IsTaken words = fault_of hotspot words ≡ []

-- the project of FILE, or without it the built-in one: one processor, one module, the horizon 8
abbrev pub IsNamed : Gives → Option Text → Project → Type 0
IsNamed gives None P = P ≡ blank 0 8
IsNamed gives (Some name) P = (bytes : List ℕ) × gives name (Some bytes) × (filed bytes ≡ Ok P)

-- the project with which the program begins
pub record Opens (gives : Gives) (words : List Text) (P : Project) : Type 0 where
  pub taken : IsTaken words
  pub named : IsNamed gives (file_in words) P

-- FILE was read, and is no project; want of memory aside it has this fault
abbrev pub IsRefused : Gives → Option Text → ProjectFault → Type 0
IsRefused gives None fault = ⊥
IsRefused gives (Some name) fault = (bytes : List ℕ) × gives name (Some bytes) × (fault ≢ Memory → filed bytes ≡ Err fault)

-- why there is no project; the built-in one may find no memory
abbrev pub FileEnds : Gives → Option Text → End → Type 0
FileEnds gives file (NoFile name) = (file ≡ Some name.now) × gives name.now None
FileEnds gives file (Refused fault) = IsRefused gives file fault
FileEnds gives file CannotStart = file ≡ None
FileEnds gives file _ = ⊥

abbrev pub FileStops : Gives → Option Text → Stop → Type 0
FileStops gives file (stop.Words error) = ⊥
FileStops gives file (stop.Refused fault place) = IsRefused gives file fault
FileStops gives file (stop.At end) = FileEnds gives file end

-- why the program ends before its first line: the words are looked at first, then FILE, then the project; where all are
-- well, there may be no memory or no thread
abbrev pub StopsAt : Gives → List Text → End → Type 0
StopsAt gives words (NoFile name) = IsTaken words × FileEnds gives (file_in words) (NoFile name)
StopsAt gives words (Refused fault) = IsTaken words × FileEnds gives (file_in words) (Refused fault)
StopsAt gives words CannotStart = (P : Project) × Opens gives words P
StopsAt gives words _ = ⊥

abbrev pub StopsFor : Gives → List Text → Stop → Type 0
StopsFor gives words (stop.Words error) = HasKind (fault_of hotspot words) error
StopsFor gives words (stop.Refused fault place) = StopsAt gives words (Refused fault)
StopsFor gives words (stop.At end) = StopsAt gives words end

-- how the program ends, with as many workers as the words ask for: a session has answered what it read, or a part of it, as
-- `ServesTo` says for its end (which faults come, and what workers leave of the output); else nothing was read or written
abbrev pub ServesAt : Gives → List Text → Type 0 → Type 0 → Bytes → End → Type 0
ServesAt gives words cant_read cant_write b Ended =
    (P : Project) × Opens gives words P × ((n : ℕ) × IsNumberHeld (matches_of hotspot words) n × ServesTo n (first_store P) cant_read cant_write b (Ok tt))
ServesAt gives words cant_read cant_write b (Served fault) =
    (P : Project) × Opens gives words P × ((n : ℕ) × IsNumberHeld (matches_of hotspot words) n × ServesTo n (first_store P) cant_read cant_write b (Err fault))
ServesAt gives words cant_read cant_write b end = StopsAt gives words end × Keeps b.unread b.rest × Keeps b.before b.after

abbrev pub ServesFor : Gives → List Text → Type 0 → Type 0 → Bytes → Stop → Type 0
ServesFor gives words cant_read cant_write b (stop.Words error) = HasKind (fault_of hotspot words) error × Keeps b.unread b.rest × Keeps b.before b.after
ServesFor gives words cant_read cant_write b (stop.Refused fault place) = ServesAt gives words cant_read cant_write b (Refused fault)
ServesFor gives words cant_read cant_write b (stop.At end) = ServesAt gives words cant_read cant_write b end

-- what the program ends with, whose session has ended so
abbrev pub end_for : Result (Unit {0}) RunFault → End
end_for (Ok done) = Ended
end_for (Err fault) = Served fault

abbrev pub stop_for : Result Session NoStart → Stop
stop_for (Ok session) = stop.At (end_for session.ended)
stop_for (Err none) = stop.At CannotStart

-- the status of a program that ends so
abbrev pub EndsWith : Gives → List Text → Type 0 → Type 0 → Bytes → ℕ → Type 0
EndsWith gives words cant_read cant_write b status = (stop : Stop) × ServesFor gives words cant_read cant_write b stop × (status ≡ status_of (end_at stop))
