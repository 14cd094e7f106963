-- Lemmas on how the program begins.
use Rattle.std.proofs.Common.{◌≡◌, ◌≢◌, ◌∙◌, ℕ, List, refl, sym, subst}
use Rattle.std.specs.Prelude.{Option, Some, Result, Ok, Err}
use Rattle.std.specs.Io.KnownBytes.{Keeps}
use Rattle.clap.specs.Words.{Text, matches_of}
use Rattle.bench_shell.specs.Store.{first_store}
use Rattle.bench_shell.specs.declared.fault.RunFault.{RunFault}
use Rattle.worker_sessions.specs.Serving.{Bytes, Leaves, ServesAs}
use Rattle.worker_sessions.specs.declared.serving.Left.{Left}
use Rattle.worker_sessions.specs.declared.serving.NoStart.{NoStart}
use Rattle.worker_sessions.specs.declared.serving.Served.{Served as Session}
use Rattle.project_file.specs.Filed.{filed}
use Rattle.project_file.specs.declared.fault.ProjectFault.{ProjectFault}
use Rattle.project_file.specs.declared.fault.ProjectFault.TheVariants.{Memory}
use Rattle.project_book.specs.Project.{Project, blank}
use Rattle.command_line.specs.Arguments.{hotspot, file_in, IsNumberHeld}
use Rattle.command_line.specs.Ends.{status_of, end_at}
use Rattle.command_line.specs.declared.end.End.{End}
use Rattle.command_line.specs.declared.end.End.TheVariants.{Ended, Words, NoFile, Project as Refused, Served, CannotStart}
use Rattle.command_line.specs.Opening.{Gives, IsTaken, IsNamed, IsRefused, Opens, FileEnds, FileStops, StopsAt, StopsFor, ServesAt, ServesFor, EndsWith, end_for, stop_for}
use Rattle.command_line.specs.declared.start.Stop.{Stop}
use Rattle.command_line.specs.declared.start.Stop.TheVariants as stop

-- what the bytes that were given are read as
pub is_read : (gives : Gives) (name : Text) (bytes : List ℕ) (P : Project) → gives name (Some bytes) → filed bytes ≡ Ok P → IsNamed gives (Some name) P
is_read gives name bytes P given is = (bytes, given, is)

pub is_refused : (gives : Gives) (name : Text) (bytes : List ℕ) (fault : ProjectFault) → gives name (Some bytes) → (fault ≢ Memory → filed bytes ≡ Err fault)
    → IsRefused gives (Some name) fault
is_refused gives name bytes fault given is = (bytes, given, is)

-- an end for want of a project, behind words that were taken
pub stops : (gives : Gives) (words : List Text) (file : Option Text) (end : End) → IsTaken words → file ≡ file_in words → FileEnds gives file end → StopsAt gives words end
stops gives words file Ended taken is why = absurd why
stops gives words file Words taken is why = absurd why
stops gives words file (NoFile name) taken is why = (taken, subst (λ f. FileEnds gives f (NoFile name)) is why)
stops gives words file (Refused fault) taken is why = (taken, subst (λ f. FileEnds gives f (Refused fault)) is why)
stops gives words file (Served fault) taken is why = absurd why
stops gives words file CannotStart taken is why =
    (blank 0 8, record { taken = taken; named = subst (λ f. IsNamed gives f (blank 0 8)) (sym why ∙ is) refl })

-- the same of what the program stops with
pub stops_for : (gives : Gives) (words : List Text) (file : Option Text) (why : Stop) → IsTaken words → file ≡ file_in words → FileStops gives file why → StopsFor gives words why
stops_for gives words file (stop.Words error) taken is h = absurd h
stops_for gives words file (stop.Refused fault place) taken is h = stops gives words file (Refused fault) taken is h
stops_for gives words file (stop.At end) taken is h = stops gives words file end taken is h

-- what the program ends with, whose words and project are well
module _ (gives : Gives) (words : List Text) (P : Project) (opens : Opens gives words P) (cant_read cant_write : Type 0) (b : Bytes) where
  pub no_start : Keeps b.unread b.rest → Keeps b.before b.after → ServesAt gives words cant_read cant_write b CannotStart
  no_start read written = ((P, opens), read, written)

  module _ (n gates : ℕ) (held : IsNumberHeld (matches_of hotspot words) n) (as_many : gates ≡ n) where
    of_end : (ended : Result (Unit {0}) RunFault) (left : Left) → Leaves gates (first_store P) cant_read cant_write b ended left → ServesFor gives words cant_read cant_write b (stop.At (end_for ended))
    of_end (Ok done) left leaves = (P, opens, (n, held, (left, subst (λ m. Leaves m (first_store P) cant_read cant_write b (Ok done) left) as_many leaves)))
    of_end (Err fault) left leaves = (P, opens, (n, held, (left, subst (λ m. Leaves m (first_store P) cant_read cant_write b (Err fault) left) as_many leaves)))

    of_session : (served : Result Session NoStart) → ServesAs gates (first_store P) cant_read cant_write b served → ServesFor gives words cant_read cant_write b (stop_for served)
    of_session (Ok session) leaves = of_end session.ended session.left leaves
    of_session (Err none) keeps = no_start keeps.0 keeps.1

    pub has_served : (served : Result Session NoStart) (why : Stop) → ServesAs gates (first_store P) cant_read cant_write b served → why ≡ stop_for served
        → ServesFor gives words cant_read cant_write b why
    has_served served why serves is = subst (ServesFor gives words cant_read cant_write b) (sym is) (of_session served serves)

pub ends_with : (gives : Gives) (words : List Text) (cant_read cant_write : Type 0) (b : Bytes) (status : ℕ) (why : Stop) → ServesFor gives words cant_read cant_write b why → status ≡ status_of (end_at why)
    → EndsWith gives words cant_read cant_write b status
ends_with gives words cant_read cant_write b status why serves is = (why, serves, is)
