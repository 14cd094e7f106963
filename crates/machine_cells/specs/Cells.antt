-- One cell from its near states, and what it is to the whole cycle.
use Rattle.std.specs.Prelude.{◌≡◌, ℕ, zero, suc, ◌-◌, ◌<◌, ◌||◌, List, [], ◌∷◌, length, Option, None, Some, is_some, get_or, slice_get}
use Rattle.std.specs.List.{filter_map}
use Rattle.omega_net.specs.declared.component.Net.{Net}
use Rattle.omega_net.specs.declared.component.Net.TheVariants.{Low as LowNet, Comb as CombNet}
use Rattle.omega_net.specs.declared.component.Component.{Component}
use Rattle.omega_net.specs.declared.component.Component.TheVariants.{Proc as ProcAt, Module as ModuleAt, Switch}
use Rattle.omega_net.specs.declared.message.Request.{Request}
use Rattle.omega_net.specs.declared.message.Reply.{Reply}
use Rattle.omega_net.specs.declared.message.Traffic.{Traffic}
use Rattle.omega_net.specs.Numbers.{components, component_of}
use Rattle.omega_net.specs.Near.{near}
use Rattle.omega_net.specs.declared.wire.Wire.{Wire}
use Rattle.omega_net.specs.Wires.{wire_of_proc, wire_of_module, wire_into, wire_out}
use Rattle.ref_proc.specs.declared.step.ProcTraffic.{ProcTraffic}
use Rattle.ref_proc.specs.RefProc.{proc_after}
use Rattle.mem_module.specs.declared.step.ModuleTraffic.{ModuleTraffic}
use Rattle.mem_module.specs.MemModule.{module_after}
use Rattle.low_switch.specs.LowSwitch.{low_after}
use Rattle.comb_switch.specs.CombSwitch.{comb_after}
use Rattle.machine_cells.specs.declared.state.MachineState.{MachineState}
use Rattle.machine_cells.specs.declared.state.MachineState.TheVariants.{Proc, Module, Low, Comb}
use Rattle.project_book.specs.Project.{Project, depth_of}
use Rattle.project_book.specs.declared.edit.Depths.TheVariants.{ModuleQueue}
use Rattle.machine_cells.specs.Moves.{request_between, reply_between, at_ends}
use Rattle.machine_cells.specs.Cycle.{blank_of, proc_settings, comb_settings, cycle}

-- the place of a network's neighbour among the near states of a processor or a module
abbrev pub beside_on : ℕ → Net → ℕ
beside_on k LowNet = 1
beside_on zero CombNet = 1
beside_on (suc k) CombNet = 2

-- what goes over a wire between the near states at these two places
abbrev pub request_pulled : Project → List MachineState → Wire → ℕ → ℕ → Option Request
request_pulled P N w upper lower = at_ends (request_between P w) (slice_get N upper) (slice_get N lower)

abbrev pub reply_pulled : Project → List MachineState → Wire → ℕ → ℕ → Option Reply
reply_pulled P N w upper lower = at_ends (reply_between P w) (slice_get N upper) (slice_get N lower)

-- what the near states are to a processor, a module and a switch
abbrev pub proc_pulls : Project → List MachineState → ℕ → ProcTraffic
proc_pulls P N p = record {
  replies = reply_pulled P N (wire_of_proc LowNet p) 0 (beside_on P.k LowNet) ∷ reply_pulled P N (wire_of_proc CombNet p) 0 (beside_on P.k CombNet) ∷ [];
  request_leaves = is_some (request_pulled P N (wire_of_proc LowNet p) 0 (beside_on P.k LowNet)) || is_some (request_pulled P N (wire_of_proc CombNet p) 0 (beside_on P.k CombNet));
}

abbrev pub module_pulls : Project → List MachineState → ℕ → ModuleTraffic
module_pulls P N m = record {
  requests = request_pulled P N (wire_of_module P.k LowNet m) (beside_on P.k LowNet) 0 ∷ request_pulled P N (wire_of_module P.k CombNet m) (beside_on P.k CombNet) 0 ∷ [];
  replies_leave = is_some (reply_pulled P N (wire_of_module P.k LowNet m) (beside_on P.k LowNet) 0) ∷ is_some (reply_pulled P N (wire_of_module P.k CombNet m) (beside_on P.k CombNet) 0) ∷ [];
}

abbrev pub switch_pulls : Project → List MachineState → Net → ℕ → ℕ → Traffic
switch_pulls P N net stage j = record {
  requests = request_pulled P N (wire_into P.k net stage j 0) 1 0 ∷ request_pulled P N (wire_into P.k net stage j 1) 2 0 ∷ [];
  replies = reply_pulled P N (wire_out net stage j 0) 0 3 ∷ reply_pulled P N (wire_out net stage j 1) 0 4 ∷ [];
  requests_leave = is_some (request_pulled P N (wire_out net stage j 0) 0 3) ∷ is_some (request_pulled P N (wire_out net stage j 1) 0 4) ∷ [];
  replies_leave = is_some (reply_pulled P N (wire_into P.k net stage j 0) 1 0) ∷ is_some (reply_pulled P N (wire_into P.k net stage j 1) 2 0) ∷ [];
}

-- a cell's state from its own state and the near states, its own first
abbrev pub pulled : Project → List MachineState → Option Component → MachineState → MachineState
pulled P N (Some (ProcAt p)) (Proc s) = Proc (proc_after (proc_settings P p s.index) (proc_pulls P N p) s)
pulled P N (Some (ModuleAt m)) (Module s) = Module (module_after (depth_of P ModuleQueue) (module_pulls P N m) s)
pulled P N (Some (Switch LowNet stage j)) (Low s) = Low (low_after (P.k - 1 - stage) (switch_pulls P N LowNet stage j) s)
pulled P N (Some (Switch CombNet stage j)) (Comb s) = Comb (comb_after (comb_settings P stage) (switch_pulls P N CombNet stage j) s)
pulled P N x _ = blank_of x

abbrev pub step_of : Project → List MachineState → ℕ → Option MachineState
step_of P [] c = None
step_of P (own ∷ others) c = Some (pulled P (own ∷ others) (component_of P.k c) own)

-- the states of these numbers
abbrev pub states_at : List MachineState → List ℕ → List MachineState
states_at S cs = filter_map (slice_get S) cs

-- the step of the near states is that component's part of the cycle
abbrev pub StepIsPart : Project → List MachineState → ℕ → Type 0
StepIsPart P S c = step_of P (states_at S (near P.k c)) c ≡ slice_get (cycle P S) c

-- of every whole state, and of every component
abbrev pub StepsAreParts : Type 0
StepsAreParts = (P : Project) (S : List MachineState) → length S ≡ components P.k → (c : ℕ) → c < components P.k → StepIsPart P S c

-- the state at a place of the numbers near a component, or its own where there is none
abbrev pub state_or : List MachineState → Option ℕ → MachineState → MachineState
state_or S None own = own
state_or S (Some n) own = get_or S n own

abbrev pub near_or : List MachineState → List ℕ → ℕ → MachineState → MachineState
near_or S numbers i own = state_or S (slice_get numbers i) own
