-- How a sweep stops, and why no project is read.
use Rattle.std.proofs.Common.{◌≡◌, inl, inr, ℕ, List, subst, sym}
use Rattle.project_book.specs.Project.{Project}
use Rattle.project_book.specs.declared.fault.EditFault.{EditFault}
use Rattle.project_book.specs.declared.fault.EditFault.TheVariants as edit_fault
use Rattle.experiments.specs.declared.fault.Fault.{Fault}
use Rattle.experiments.specs.declared.fault.Fault.TheVariants as fault
use Rattle.lab_tasks.specs.declared.end.End.{End}
use Rattle.lab_tasks.specs.declared.end.End.TheVariants as end
use Rattle.lab_tasks.specs.Done.{IsNotMade}
use Rattle.lab_tasks.specs.Ends.{end_for, IsStop}
use Rattle.lab_tasks.specs.SweepTables.{OrMemory, OrStop}

stop_for_edit : (f : EditFault) → IsStop (end_for (fault.Edit f))
stop_for_edit edit_fault.JournalFull = tt
stop_for_edit edit_fault.BadProcessor = tt
stop_for_edit edit_fault.BadEntry = tt
stop_for_edit edit_fault.ScriptFull = tt
stop_for_edit edit_fault.BadAddress = tt
stop_for_edit edit_fault.BadPage = tt
stop_for_edit edit_fault.BadInterleave = tt
stop_for_edit edit_fault.BadStage = tt
stop_for_edit edit_fault.BadDepth = tt
stop_for_edit edit_fault.BadWindow = tt
stop_for_edit edit_fault.BadTimes = tt
stop_for_edit edit_fault.BadHorizon = tt
stop_for_edit edit_fault.ClockSpent = tt
stop_for_edit edit_fault.Memory = tt

stop_for : (f : Fault) → IsStop (end_for f)
stop_for fault.Memory = tt
stop_for fault.Clock = tt
stop_for (fault.Query n) = tt
stop_for fault.Load = tt
stop_for (fault.Edit f) = stop_for_edit f

-- a fault of the bench, and want of memory
pub is_stop : (f : Fault) (e : End) → e ≡ end_for f → IsStop e
is_stop f e is = subst IsStop (sym is) (stop_for f)

pub is_stop_memory : (e : End) → e ≡ end.Memory → IsStop e
is_stop_memory e is = subst IsStop (sym is) tt

-- a table is refused for such a stop, or for a reason that stands behind another one
pub or_stop : (Reason : End → Type 0) (e : End) → IsStop e → OrStop Reason e
or_stop Reason end.Done h = absurd h
or_stop Reason end.Words h = absurd h
or_stop Reason (end.Word option word reason) h = absurd h
or_stop Reason (end.NotRead name) h = absurd h
or_stop Reason (end.NotWritten name) h = absurd h
or_stop Reason (end.Project f) h = absurd h
or_stop Reason end.Memory h = tt
or_stop Reason end.Spent h = tt
or_stop Reason end.Output h = absurd h

pub or_stop_memory : (Reason Other : End → Type 0) (e : End) → (Reason e → Other e) → OrMemory Reason e → OrStop Other e
or_stop_memory Reason Other end.Done f h = f h
or_stop_memory Reason Other end.Words f h = f h
or_stop_memory Reason Other (end.Word option word reason) f h = f h
or_stop_memory Reason Other (end.NotRead name) f h = f h
or_stop_memory Reason Other (end.NotWritten name) f h = f h
or_stop_memory Reason Other (end.Project fault) f h = f h
or_stop_memory Reason Other end.Memory f h = tt
or_stop_memory Reason Other end.Spent f h = tt
or_stop_memory Reason Other end.Output f h = f h

-- what keeps bytes from being a project keeps anything from being made of it
pub not_made : (bytes : List ℕ) (Refused : Project → Type 0) (e : End) → IsNotMade bytes (λ P. ⊥) e → IsNotMade bytes Refused e
not_made bytes Refused e (inl memory) = inl memory
not_made bytes Refused e (inr (inl refused)) = inr (inl refused)
not_made bytes Refused e (inr (inr other)) = absurd other.2

-- and by a reason that follows from another one
pub or_stop_by : (Reason Other : End → Type 0) (e : End) → (Reason e → Other e) → OrStop Reason e → OrStop Other e
or_stop_by Reason Other end.Done f h = f h
or_stop_by Reason Other end.Words f h = f h
or_stop_by Reason Other (end.Word option word reason) f h = f h
or_stop_by Reason Other (end.NotRead name) f h = f h
or_stop_by Reason Other (end.NotWritten name) f h = f h
or_stop_by Reason Other (end.Project fault) f h = f h
or_stop_by Reason Other end.Memory f h = tt
or_stop_by Reason Other end.Spent f h = tt
or_stop_by Reason Other end.Output f h = f h

pub or_memory_by : (Reason Other : End → Type 0) (e : End) → (Reason e → Other e) → OrMemory Reason e → OrMemory Other e
or_memory_by Reason Other end.Memory f h = tt
or_memory_by Reason Other end.Done f h = f h
or_memory_by Reason Other end.Words f h = f h
or_memory_by Reason Other (end.Word option word reason) f h = f h
or_memory_by Reason Other (end.NotRead name) f h = f h
or_memory_by Reason Other (end.NotWritten name) f h = f h
or_memory_by Reason Other (end.Project fault) f h = f h
or_memory_by Reason Other end.Spent f h = f h
or_memory_by Reason Other end.Output f h = f h
