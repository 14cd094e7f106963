-- What stands between two references of a processor: a fence of its script, or a cycle in which nothing was pending.
use Rattle.std.specs.Prelude.{◌≡◌, ℕ, suc, ◌<◌, ◌≤◌, Some}
use Rattle.omega_net.specs.declared.component.Component.TheVariants.{Proc as ProcAt}
use Rattle.omega_net.specs.declared.script.ScriptEntry.TheVariants.{Fence}
use Rattle.omega_net.specs.Numbers.{number_of}
use Rattle.ref_proc.specs.declared.state.ProcState.{ProcState}
use Rattle.machine_cells.specs.declared.state.MachineState.TheVariants.{Proc}
use Rattle.machine_cells.specs.Run.{run}
use Rattle.machine_cells.specs.Runs.{state_in}
use Rattle.project_book.specs.Project.{Project, entry_at}
use Rattle.serial_order.specs.References.{Reference}
use Rattle.serial_order.specs.RealTime.{Precedes}
use Rattle.memory_order.specs.Programs.{InProgram}

-- in a cycle of the run a processor is in this state
abbrev pub ProcIn : Project → ℕ → ℕ → ProcState → Type 0
ProcIn P cycle p s = state_in (run P) cycle (number_of P.k (ProcAt p)) ≡ Some (Proc s)

-- from the issue of g to that of h there was a cycle in which nothing was pending for their processor
pub record Settled (P : Project) (g h : Reference) : Type 0 where
  pub program : InProgram P g h
  pub cycle : ℕ
  pub from : program.first.cycle ≤ cycle
  pub to : cycle ≤ program.second.cycle
  pub state : ProcState
  pub is : ProcIn P cycle program.first.proc state
  pub none : state.pending ≡ 0

-- the script of their processor has a fence between g and h: it stood at an entry before the fence in the cycle before it issued g, and at one
-- behind the fence in the cycle before it issued h
pub record Fenced (P : Project) (g h : Reference) : Type 0 where
  pub program : InProgram P g h
  pub fence : ℕ
  pub is : entry_at P program.first.proc fence ≡ Some Fence
  pub cycle_g : ℕ
  pub state_g : ProcState
  pub there_g : ProcIn P cycle_g program.first.proc state_g
  pub issues_g : program.first.cycle ≡ suc cycle_g
  pub before : state_g.index < fence
  pub cycle_h : ℕ
  pub state_h : ProcState
  pub there_h : ProcIn P cycle_h program.first.proc state_h
  pub issues_h : program.second.cycle ≡ suc cycle_h
  pub behind : fence < state_h.index

-- what has a fence between it, or a cycle with nothing pending, is in real time
pub record FencesHold (P : Project) : Type 0 where
  pub settled : (g h : Reference) → Settled P g h → Precedes P g h
  pub fenced : (g h : Reference) → Fenced P g h → Precedes P g h
