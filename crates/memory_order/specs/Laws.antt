-- The laws of the one order, of every project.
use Rattle.std.specs.Prelude.{◌≡◌, ℕ, ◌<◌, ◌≤◌, List, length}
use Rattle.page_map.specs.Pages.{IsPageMap}
use Rattle.omega_net.specs.Numbers.{lines}
use Rattle.ref_proc.specs.declared.state.ProcState.{ProcState}
use Rattle.project_book.specs.Project.{Project, IsProject}
use Rattle.serial_order.specs.References.{Reference, In}
use Rattle.serial_order.specs.Combining.{Distinct}
use Rattle.serial_order.specs.OneOrder.{one_order}
use Rattle.memory_order.specs.Linearizable.{Linearizes}
use Rattle.memory_order.specs.WellFormed.{IsWellFormed}
use Rattle.memory_order.specs.Programs.{InProgram, OneAtATime, IsSequential}
use Rattle.memory_order.specs.Fences.{ProcIn, Fenced, FencesHold}
use Rattle.memory_order.specs.Windows.{Waits}

-- the list that is read from the run is one order of all references
abbrev pub OneOrders : Type 0
OneOrders = (P : Project) → IsProject P → IsPageMap P.pages → Linearizes P (one_order P)

-- the history of the run is well formed
abbrev pub HistoriesAreWellFormed : Type 0
HistoriesAreWellFormed = (P : Project) → IsProject P → IsPageMap P.pages → IsWellFormed P

-- fences hold; where there is a fence between every two references of a processor, or the window is 1, each processor does
-- one reference at a time; and where each does, the run is sequentially consistent by the one order of all references
pub record ProgramsAreKept : Type 0 where
  pub fences : (P : Project) → IsProject P → IsPageMap P.pages → FencesHold P
  pub all_fenced : (P : Project) → IsProject P → IsPageMap P.pages → ((g h : Reference) → InProgram P g h → Fenced P g h) → OneAtATime P
  pub one_window : (P : Project) → IsProject P → IsPageMap P.pages → P.window ≡ 1 → OneAtATime P
  pub sequential : (P : Project) → IsProject P → IsPageMap P.pages → OneAtATime P → IsSequential P (one_order P)

-- in every cycle: no more references of a processor wait than it counts pending, and that is at most the window
abbrev pub WindowsHold : Type 0
WindowsHold = (P : Project) → IsProject P → IsPageMap P.pages → (cycle p : ℕ) (s : ProcState) → p < lines P.k → ProcIn P cycle p s
    → (s.pending ≤ P.window) × ((gs : List Reference) → Distinct gs → ((g : Reference) → In g gs → Waits P cycle p g) → length gs ≤ s.pending)
