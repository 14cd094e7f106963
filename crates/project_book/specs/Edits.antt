-- What an edit does, and when it is refused.
use Rattle.std.specs.Prelude.{ℕ, ◌^◌, ◌==◌, ◌&&◌, nat_le, nat_lt, Bool, false, not, if◌then◌else◌, List, [], ◌∷◌, Option, None, Some, Result, Ok, Err, find, slice_set}
use Rattle.page_map.specs.Limits.{address_count, page_count}
use Rattle.page_map.specs.Pages.{with_page, is_spread}
use Rattle.project_book.specs.Limits.{max_edits}
use Rattle.project_book.specs.Scales.{most_horizon, most_entries}
use Rattle.project_book.specs.declared.edit.Edit.{Edit}
use Rattle.project_book.specs.declared.edit.Edit.TheVariants.{Entry, Cut, Word, Page, Depth, WaitDepth, Combine, Window, Horizon}
use Rattle.project_book.specs.declared.slot.Slot.{Slot}
use Rattle.project_book.specs.declared.slot.Slot.TheVariants.{Entry as EntrySlot, Word as WordSlot, Page as PageSlot, Depth as DepthSlot, Wait as WaitSlot, Combine as CombineSlot, Window as WindowSlot}
use Rattle.project_book.specs.declared.fault.EditFault.{EditFault}
use Rattle.project_book.specs.declared.fault.EditFault.TheVariants.{JournalFull, BadProcessor, BadEntry, ScriptFull, BadAddress, BadPage, BadInterleave, BadStage, BadDepth, BadWindow, BadTimes, BadHorizon, ClockSpent, Memory}
use Rattle.project_book.specs.Queues.{with_depth, is_depth, is_wait}
use Rattle.project_book.specs.FirstWords.{with_word}
use Rattle.project_book.specs.Scripts.{with_entry, with_cut, is_addressed, is_timed}
use Rattle.project_book.specs.Project.{Project, length_at, is_window}

-- the edited project
abbrev pub edited : Project → Edit → Project
edited P (Entry proc index entry) = record P { scripts = with_entry P.scripts proc index entry }
edited P (Cut proc length) = record P { scripts = with_cut P.scripts proc length }
edited P (Word address word) = record P { words = with_word P.words address word }
edited P (Page page amount base) = record P { pages = with_page P.pages page (record { amount = amount; base = base }) }
edited P (Depth queue depth) = record P { depths = with_depth P.depths queue depth }
edited P (WaitDepth depth) = record P { wait = depth }
edited P (Combine stage on) = record P { combine = slice_set P.combine stage on }
edited P (Window window) = record P { window = window }
edited P (Horizon horizon) = record P { horizon = horizon }

-- whether an edit names what isn't there
abbrev pub lacks_processor : Project → Edit → Bool
lacks_processor P (Entry proc index entry) = nat_le (2 ^ P.k) proc
lacks_processor P (Cut proc length) = nat_le (2 ^ P.k) proc
lacks_processor P _ = false

abbrev pub lacks_entry : Project → Edit → Bool
lacks_entry P (Entry proc index entry) = nat_lt (length_at P proc) index
lacks_entry P (Cut proc length) = nat_lt (length_at P proc) length
lacks_entry P _ = false

abbrev pub lacks_address : Edit → Bool
lacks_address (Entry proc index entry) = not (is_addressed entry)
lacks_address (Word address word) = nat_le address_count address
lacks_address _ = false

abbrev pub lacks_page : Edit → Bool
lacks_page (Page page amount base) = nat_le page_count page
lacks_page _ = false

abbrev pub lacks_stage : Project → Edit → Bool
lacks_stage P (Combine stage on) = nat_le P.k stage
lacks_stage P _ = false

-- whether an edit appends to a full script
abbrev pub overfills : Project → Edit → Bool
overfills P (Entry proc index entry) = (index == length_at P proc) && nat_le (most_entries P.scale) index
overfills P _ = false

-- whether an edit's number is out of its limits
abbrev pub has_bad_interleave : Project → Edit → Bool
has_bad_interleave P (Page page amount base) = not (is_spread P.k amount base)
has_bad_interleave P _ = false

abbrev pub has_bad_depth : Edit → Bool
has_bad_depth (Depth queue depth) = not (is_depth queue depth)
has_bad_depth (WaitDepth depth) = not (is_wait depth)
has_bad_depth _ = false

abbrev pub has_bad_window : Edit → Bool
has_bad_window (Window window) = not (is_window window)
has_bad_window _ = false

abbrev pub has_bad_times : Edit → Bool
has_bad_times (Entry proc index entry) = not (is_timed entry)
has_bad_times _ = false

abbrev pub has_bad_horizon : Project → Edit → Bool
has_bad_horizon P (Horizon horizon) = nat_lt (most_horizon P.scale) horizon
has_bad_horizon P _ = false

-- whether a fault applies to an edit of this project after v accepted edits
abbrev pub applies : Project → ℕ → Edit → EditFault → Bool
applies P v e JournalFull = nat_le max_edits v
applies P v e BadProcessor = lacks_processor P e
applies P v e BadEntry = lacks_entry P e
applies P v e ScriptFull = overfills P e
applies P v e BadAddress = lacks_address e
applies P v e BadPage = lacks_page e
applies P v e BadInterleave = has_bad_interleave P e
applies P v e BadStage = lacks_stage P e
applies P v e BadDepth = has_bad_depth e
applies P v e BadWindow = has_bad_window e
applies P v e BadTimes = has_bad_times e
applies P v e BadHorizon = has_bad_horizon P e
applies P v e ClockSpent = false
applies P v e Memory = false

-- the faults that an edit is judged by, in their order
abbrev pub judged : List EditFault
judged =
    JournalFull ∷ BadProcessor ∷ BadEntry ∷ ScriptFull ∷ BadAddress ∷ BadPage ∷ BadInterleave ∷ BadStage ∷ BadDepth ∷ BadWindow ∷ BadTimes ∷ BadHorizon ∷ []

-- the first fault that applies
abbrev pub first_fault : Project → ℕ → Edit → Option EditFault
first_fault P v e = find (applies P v e) judged

-- Ok, where there is no fault
abbrev pub verdict : Option EditFault → Result (Unit {0}) EditFault
verdict None = Ok tt
verdict (Some fault) = Err fault

-- `accepts`: Ok, or the first fault that applies
abbrev pub accepts : Project → ℕ → Edit → Result (Unit {0}) EditFault
accepts P v e = verdict (first_fault P v e)

-- the slot that an edit names; a cut may change many, and the horizon is none
abbrev pub slot_of : Edit → Option Slot
slot_of (Entry proc index entry) = Some (EntrySlot proc index)
slot_of (Cut proc length) = None
slot_of (Word address word) = Some (WordSlot address)
slot_of (Page page amount base) = Some (PageSlot page)
slot_of (Depth queue depth) = Some (DepthSlot queue)
slot_of (WaitDepth depth) = Some WaitSlot
slot_of (Combine stage on) = Some (CombineSlot stage)
slot_of (Window window) = Some WindowSlot
slot_of (Horizon horizon) = None

-- the new horizon, where it is another one
abbrev pub new_horizon : Project → Project → Option ℕ
new_horizon P Q = if P.horizon == Q.horizon then None else Some Q.horizon
