-- One cycle of the whole machine: every component takes what moves to it and loses what moves from it.
use Rattle.std.specs.Prelude.{ℕ, suc, ◌-◌, ◌||◌, List, [], ◌∷◌, Option, None, Some, is_some}
use Rattle.omega_net.specs.declared.component.Net.{Net}
use Rattle.omega_net.specs.declared.component.Net.TheVariants.{Low as LowNet, Comb as CombNet}
use Rattle.omega_net.specs.declared.component.Component.{Component}
use Rattle.omega_net.specs.declared.component.Component.TheVariants.{Proc as ProcAt, Module as ModuleAt, Switch}
use Rattle.omega_net.specs.declared.message.Traffic.{Traffic}
use Rattle.omega_net.specs.Numbers.{component_of}
use Rattle.omega_net.specs.Wires.{wire_of_proc, wire_of_module, wire_into, wire_out}
use Rattle.ref_proc.specs.declared.step.ProcSettings.{ProcSettings}
use Rattle.ref_proc.specs.declared.step.ProcTraffic.{ProcTraffic}
use Rattle.ref_proc.specs.RefProc.{proc_start, proc_after}
use Rattle.mem_module.specs.declared.step.ModuleTraffic.{ModuleTraffic}
use Rattle.mem_module.specs.MemModule.{module_start, module_after}
use Rattle.low_switch.specs.LowSwitch.{low_start, low_after}
use Rattle.comb_switch.specs.declared.settings.CombSettings.{CombSettings}
use Rattle.comb_switch.specs.CombSwitch.{comb_start, comb_after}
use Rattle.machine_cells.specs.declared.state.MachineState.{MachineState}
use Rattle.machine_cells.specs.declared.state.MachineState.TheVariants.{Proc, Module, Low, Comb}
use Rattle.project_book.specs.Project.{Project, depth_of, entry_at, place_for, combines_at}
use Rattle.project_book.specs.declared.edit.Depths.TheVariants.{ModuleQueue}
use Rattle.machine_cells.specs.Moves.{Move, moves, moved_request, moved_reply}

-- what a list of moves is to a processor, a module and a switch
abbrev pub proc_traffic : List Move → ℕ → ProcTraffic
proc_traffic M p = record {
  replies = moved_reply M (wire_of_proc LowNet p) ∷ moved_reply M (wire_of_proc CombNet p) ∷ [];
  request_leaves = is_some (moved_request M (wire_of_proc LowNet p)) || is_some (moved_request M (wire_of_proc CombNet p));
}

abbrev pub module_traffic : List Move → ℕ → ℕ → ModuleTraffic
module_traffic M k m = record {
  requests = moved_request M (wire_of_module k LowNet m) ∷ moved_request M (wire_of_module k CombNet m) ∷ [];
  replies_leave = is_some (moved_reply M (wire_of_module k LowNet m)) ∷ is_some (moved_reply M (wire_of_module k CombNet m)) ∷ [];
}

abbrev pub switch_traffic : List Move → ℕ → Net → ℕ → ℕ → Traffic
switch_traffic M k net stage j = record {
  requests = moved_request M (wire_into k net stage j 0) ∷ moved_request M (wire_into k net stage j 1) ∷ [];
  replies = moved_reply M (wire_out net stage j 0) ∷ moved_reply M (wire_out net stage j 1) ∷ [];
  requests_leave = is_some (moved_request M (wire_out net stage j 0)) ∷ is_some (moved_request M (wire_out net stage j 1)) ∷ [];
  replies_leave = is_some (moved_reply M (wire_into k net stage j 0)) ∷ is_some (moved_reply M (wire_into k net stage j 1)) ∷ [];
}

-- what a processor and a combining switch read of the project
abbrev pub proc_settings : Project → ℕ → ℕ → ProcSettings
proc_settings P p i = record { proc = p; entry = entry_at P p i; place = place_for P (entry_at P p i); window = P.window }

abbrev pub comb_settings : Project → ℕ → CombSettings
comb_settings P stage = record { bit = P.k - 1 - stage; combine = combines_at P stage; wait = P.wait }

-- a component in which nothing is or was
abbrev pub blank_of : Option Component → MachineState
blank_of (Some (ModuleAt m)) = Module (module_start [])
blank_of (Some (Switch LowNet stage j)) = Low low_start
blank_of (Some (Switch CombNet stage j)) = Comb comb_start
blank_of (Some (ProcAt p)) = Proc proc_start
blank_of None = Proc proc_start

-- a component one cycle later, where these are the moves; a state of another kind than the component's becomes blank
abbrev pub part_of : Project → List Move → Option Component → MachineState → MachineState
part_of P M (Some (ProcAt p)) (Proc s) = Proc (proc_after (proc_settings P p s.index) (proc_traffic M p) s)
part_of P M (Some (ModuleAt m)) (Module s) = Module (module_after (depth_of P ModuleQueue) (module_traffic M P.k m) s)
part_of P M (Some (Switch LowNet stage j)) (Low s) = Low (low_after (P.k - 1 - stage) (switch_traffic M P.k LowNet stage j) s)
part_of P M (Some (Switch CombNet stage j)) (Comb s) = Comb (comb_after (comb_settings P stage) (switch_traffic M P.k CombNet stage j) s)
part_of P M x _ = blank_of x

-- the parts from component c on
abbrev pub parts_from : Project → List Move → ℕ → List MachineState → List MachineState
parts_from P M c [] = []
parts_from P M c (s ∷ S) = part_of P M (component_of P.k c) s ∷ parts_from P M (suc c) S

-- `cycle`: all components move at once
abbrev pub cycle : Project → List MachineState → List MachineState
cycle P S = parts_from P (moves P S) 0 S
