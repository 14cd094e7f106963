-- What a cell reads of the project.
use Rattle.std.specs.Prelude.{◌≡◌, ◌<◌, ℕ, zero, suc, ◌/◌, ◌==◌, ◌&&◌, nat_lt, Bool, true, false, if◌then◌else◌, List, [], ◌∷◌, ◌++◌, Option, None, Some}
use Rattle.std.specs.List.{list_any, flat_map, range_with_len}
use Rattle.omega_net.specs.declared.component.Net.TheVariants.{Low as LowNet, Comb as CombNet}
use Rattle.omega_net.specs.declared.component.Component.{Component}
use Rattle.omega_net.specs.declared.component.Component.TheVariants.{Proc as ProcAt, Module as ModuleAt, Switch}
use Rattle.omega_net.specs.declared.script.ScriptEntry.{ScriptEntry}
use Rattle.omega_net.specs.declared.script.ScriptEntry.TheVariants.{Reference, Until, Fence, Idle}
use Rattle.omega_net.specs.Numbers.{components, component_of}
use Rattle.grid_law.specs.declared.reader.Reader.{Reader}
use Rattle.grid_law.specs.Rules.{reader_at}
use Rattle.ref_proc.specs.declared.state.Outgoing.{Outgoing}
use Rattle.project_book.specs.Limits.{script_entries}
use Rattle.machine_cells.specs.declared.state.MachineState.{MachineState}
use Rattle.machine_cells.specs.declared.state.MachineState.TheVariants.{Proc}
use Rattle.project_book.specs.Project.{Project, entry_at, page_of, word_of}
use Rattle.project_book.specs.Slots.{SameAt}
use Rattle.project_book.specs.Queues.{forward_queue}
use Rattle.page_map.specs.Limits.{address_count, page_count, page_words}
use Rattle.project_book.specs.declared.slot.Slot.{Slot}
use Rattle.project_book.specs.declared.slot.Slot.TheVariants.{Shape, Entry, Word, Page as PageAt, Depth, Wait, Combine, Window}
use Rattle.project_book.specs.declared.edit.Depths.{Depths}
use Rattle.project_book.specs.declared.edit.Depths.TheVariants.{LowForward, LowReverse, CombForward, CombReverse, ModuleQueue}

-- a processor reads the entry at its index, where there can be one
abbrev pub index_reads : ℕ → ℕ → List Slot
index_reads p i = if nat_lt i script_entries then Entry p i ∷ [] else []

-- a reference and an `until` read the window and the page of their address
abbrev pub entry_reads : Option ScriptEntry → List Slot
entry_reads (Some (Reference sync op address times)) = Window ∷ PageAt (address / page_words) ∷ []
entry_reads (Some (Until sync op address value times)) = Window ∷ PageAt (address / page_words) ∷ []
entry_reads (Some Fence) = []
entry_reads (Some (Idle turns)) = []
entry_reads None = []

-- a request on its way out reads the depth of the queue that it would enter
abbrev pub out_reads : ℕ → Option Outgoing → List Slot
out_reads k None = []
out_reads zero (Some o) = Depth ModuleQueue ∷ []
out_reads (suc k) (Some o) = Depth (forward_queue o.net) ∷ []

-- the switches of the last stage read the depth of the modules' queues
abbrev pub last_reads : ℕ → ℕ → List Slot
last_reads k stage = if suc stage == k then Depth ModuleQueue ∷ [] else []

-- a module reads the depths of the queues that its replies would enter
abbrev pub back_reads : ℕ → List Slot
back_reads zero = []
back_reads (suc k) = Depth LowReverse ∷ Depth CombReverse ∷ []

-- what a module or a switch reads beside the shape after cycle 0, whatever its state is
abbrev pub fixed_reads : ℕ → Option Component → List Slot
fixed_reads k (Some (ModuleAt m)) = Depth ModuleQueue ∷ back_reads k
fixed_reads k (Some (Switch LowNet stage j)) = Depth LowForward ∷ Depth LowReverse ∷ last_reads k stage
fixed_reads k (Some (Switch CombNet stage j)) = Depth CombForward ∷ Depth CombReverse ∷ Wait ∷ Combine stage ∷ last_reads k stage
fixed_reads k _ = []

-- what a component reads beside the shape after cycle 0, where its own state one cycle earlier was this
abbrev pub later_reads : Project → Option Component → MachineState → List Slot
later_reads P (Some (ProcAt p)) (Proc s) = index_reads p s.index ++ (entry_reads (entry_at P p s.index) ++ out_reads P.k s.out)
later_reads P component own = fixed_reads P.k component

-- at cycle 0 a module reads all first words and all pages, and other components nothing more
abbrev pub start_reads : Option Component → Slot → Bool
start_reads (Some (ModuleAt m)) (Word a) = nat_lt a address_count
start_reads (Some (ModuleAt m)) (PageAt g) = nat_lt g page_count
start_reads _ _ = false

-- whether two slots are the same
abbrev pub depth_number : Depths → ℕ
depth_number LowForward = 0
depth_number LowReverse = 1
depth_number CombForward = 2
depth_number CombReverse = 3
depth_number ModuleQueue = 4

abbrev pub same_slot : Slot → Slot → Bool
same_slot Shape Shape = true
same_slot (Entry p i) (Entry q j) = (p == q) && (i == j)
same_slot (Word a) (Word b) = a == b
same_slot (PageAt g) (PageAt h) = g == h
same_slot (Depth q) (Depth r) = depth_number q == depth_number r
same_slot Wait Wait = true
same_slot (Combine s) (Combine t) = s == t
same_slot Window Window = true
same_slot _ _ = false

abbrev pub is_listed : List Slot → Slot → Bool
is_listed slots slot = list_any (same_slot slot) slots

abbrev pub or_shape : Slot → Bool → Bool
or_shape Shape other = true
or_shape _ other = other

-- `reads`: every cell reads the shape; no near states stand for cycle 0, and the first of them is the component's own
abbrev pub reads : Project → List MachineState → ℕ → Slot → Bool
reads P [] c slot = or_shape slot (start_reads (component_of P.k c) slot)
reads P (own ∷ others) c slot = or_shape slot (is_listed (later_reads P (component_of P.k c) own) slot)

-- `always_reads`: the shape, and what is read whatever the state is
abbrev pub always_reads : Project → ℕ → Slot → Bool
always_reads P c slot = or_shape slot (is_listed (fixed_reads P.k (component_of P.k c)) slot)

-- the depths that a processor may read, behind whichever port a request of its waits
abbrev pub out_depths : ℕ → List Slot
out_depths zero = Depth ModuleQueue ∷ []
out_depths (suc k) = Depth LowForward ∷ Depth CombForward ∷ []

-- what a processor may read after cycle 0: its script, every page, the window and these depths
abbrev pub proc_may_read : ℕ → ℕ → Slot → Bool
proc_may_read k p (Entry q i) = q == p
proc_may_read k p (PageAt g) = true
proc_may_read k p Window = true
proc_may_read k p (Depth q) = is_listed (out_depths k) (Depth q)
proc_may_read k p _ = false

-- and any component: a module and a switch read the same slots at every state
abbrev pub later_may_read : ℕ → Option Component → Slot → Bool
later_may_read k (Some (ProcAt p)) slot = proc_may_read k p slot
later_may_read k component slot = is_listed (fixed_reads k component) slot

-- whether a component may read a slot, at cycle 0 or at a later one
abbrev pub may_read : Project → ℕ → Bool → Slot → Bool
may_read P c true slot = or_shape slot (start_reads (component_of P.k c) slot)
may_read P c false slot = or_shape slot (later_may_read P.k (component_of P.k c) slot)

-- a component as the reader of a slot, at cycle 0 or at the later ones, where it may be one
abbrev pub reader_if : Bool → ℕ → Bool → List Reader
reader_if may c first = if may then reader_at c first ∷ [] else []

abbrev pub reader_of : Project → Slot → ℕ → List Reader
reader_of P slot c = reader_if (may_read P c true slot) c true ++ reader_if (may_read P c false slot) c false

-- `readers`: those of all components, in their order
abbrev pub readers : Project → Slot → List Reader
readers P slot = flat_map (reader_of P slot) (range_with_len 0 (components P.k))

-- each slot of a list has the same value in both
abbrev pub SameAtAll : Project → Project → List Slot → Type 0
SameAtAll P Q [] = Unit {0}
SameAtAll P Q (slot ∷ slots) = SameAt P Q slot × SameAtAll P Q slots

-- two projects with the same pages and first words
pub record SameMemory (P Q : Project) : Type 0 where
  pub pages : (g : ℕ) → g < page_count → page_of P g ≡ page_of Q g
  pub words : (a : ℕ) → a < address_count → word_of P a ≡ word_of Q a

-- a module's first state wants all of them
abbrev pub SameStart : Project → Project → Option Component → Type 0
SameStart P Q (Some (ModuleAt m)) = SameMemory P Q
SameStart P Q _ = Unit {0}
