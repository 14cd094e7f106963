-- Where along a run a processor reads an entry, as the index in its words tells.
use Rattle.std.specs.Prelude.{◌≡◌, ℕ, ◌≤◌, false, List, drop, Some, slice_index}
use Rattle.omega_net.specs.declared.component.Component.TheVariants.{Proc as ProcAt}
use Rattle.ref_proc.specs.declared.state.ProcState.{ProcState}
use Rattle.state_words.specs.Reading.{proc_from}
use Rattle.project_book.specs.Project.{Project}
use Rattle.project_book.specs.declared.slot.Slot.{Slot}
use Rattle.machine_cells.specs.declared.state.MachineState.TheVariants.{Proc}
use Rattle.machine_cells.specs.Reads.{is_listed, later_reads, or_shape}

-- the index of the processor that words are
abbrev pub index_of : List ℕ → ℕ
index_of ws = (proc_from (slice_index ws 0) (drop 1 ws)).index

-- a processor in this state reads a slot under no project
abbrev pub ReadsNot : ℕ → ProcState → Slot → Type 0
ReadsNot p s slot = (P : Project) → or_shape slot (is_listed (later_reads P (Some (ProcAt p)) (Proc s)) slot) ≡ false

-- it reads it at no state whose index is not above that of words, or not below it
abbrev pub IsAhead : ℕ → List ℕ → Slot → Type 0
IsAhead p ws slot = (s : ProcState) → s.index ≤ index_of ws → ReadsNot p s slot

abbrev pub IsPassed : ℕ → List ℕ → Slot → Type 0
IsPassed p ws slot = (s : ProcState) → index_of ws ≤ s.index → ReadsNot p s slot
