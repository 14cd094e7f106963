-- No message of a project's machine is lost: each that goes over a wire stands in the next whole state, or was combined or answered.
use Rattle.std.specs.Prelude.{◌≡◌, ℕ, ◌-◌, List, Some, slice_get}
use Rattle.std.specs.List.{Contains}
use Rattle.omega_net.specs.declared.component.Net.{Net}
use Rattle.omega_net.specs.declared.component.Net.TheVariants.{Low as LowNet, Comb as CombNet}
use Rattle.omega_net.specs.declared.component.Component.{Component}
use Rattle.omega_net.specs.declared.component.Component.TheVariants.{Proc as ProcAt, Module as ModuleAt, Switch}
use Rattle.omega_net.specs.declared.message.Request.{Request}
use Rattle.omega_net.specs.declared.message.Reply.{Reply}
use Rattle.omega_net.specs.declared.wire.Wire.{Wire}
use Rattle.omega_net.specs.Numbers.{number_of, Exists}
use Rattle.omega_net.specs.Wires.{IsWire, upper_end, lower_end, net_number}
use Rattle.omega_net.specs.Routes.{stage_bit}
use Rattle.omega_net.specs.Ports.{queue_at, message_at}
use Rattle.mem_module.specs.declared.state.ModuleState.{ModuleState}
use Rattle.mem_module.specs.Memory.{word_at}
use Rattle.mem_module.specs.MemModule.{served_net, served_on}
use Rattle.comb_switch.specs.declared.waiting.Waiting.{Waiting}
use Rattle.comb_switch.specs.declared.state.CombState.{CombState}
use Rattle.comb_switch.specs.Held.{HasRequest as SwitchHasRequest, HasReply as SwitchHasReply, IsCombined}
use Rattle.machine_cells.specs.declared.state.MachineState.{MachineState}
use Rattle.machine_cells.specs.declared.state.MachineState.TheVariants.{Proc, Module, Low, Comb}
use Rattle.project_book.specs.Project.{Project, IsProject, depth_of}
use Rattle.project_book.specs.declared.edit.Depths.TheVariants.{ModuleQueue}
use Rattle.machine_cells.specs.Moves.{request_over, reply_over}
use Rattle.machine_cells.specs.Cycle.{cycle}

-- a component has the request that came to it over a wire: a module in its queue of the network, a switch in its output queue;
-- in a combining switch it may have been combined
abbrev pub HasRequest : ℕ → Net → Request → Component → MachineState → Type 0
HasRequest k net r (ModuleAt m) (Module s) = Contains (queue_at s.requests (net_number net)).items r
HasRequest k net r (Switch LowNet stage j) (Low s) = Contains (queue_at s.fwd (stage_bit k stage r.place.«module»)).items r
HasRequest k net r (Switch CombNet stage j) (Comb s) = SwitchHasRequest (k - 1 - stage) r s
HasRequest k net r _ _ = ⊥

-- and the reply: a processor has received it, a switch has it in the queue of its processor
abbrev pub HasReply : ℕ → Net → Reply → Component → MachineState → Type 0
HasReply k net y (ProcAt p) (Proc s) = message_at s.got (net_number net) ≡ Some y
HasReply k net y (Switch LowNet stage j) (Low s) = Contains (queue_at s.rev (stage_bit k stage y.tag.proc)).items y
HasReply k net y (Switch CombNet stage j) (Comb s) = SwitchHasReply (k - 1 - stage) y s
HasReply k net y _ _ = ⊥

-- a fact of a component's state in a whole state
abbrev pub StateHas : Project → List MachineState → Component → (MachineState → Type 0) → Type 0
StateHas P S x fact = (s : MachineState) × (slice_get S (number_of P.k x) ≡ Some s) × fact s

-- the reply to the request that a module serves stands in the network's queue
abbrev pub HasAnswer : Net → Reply → MachineState → Type 0
HasAnswer net y (Module s) = Contains (queue_at s.replies (net_number net)).items y
HasAnswer net y _ = ⊥

-- a request that a combining switch had combined into another
abbrev pub HasCombined : ℕ → Waiting → MachineState → Type 0
HasCombined b w (Comb s) = IsCombined b w.second s
HasCombined b w _ = ⊥

-- one cycle later the components have each message that went over a wire, the reply to each request that was served, and
-- each request that was combined
pub record LosesNothing (P : Project) (S : List MachineState) : Type 0 where
  pub requests : (w : Wire) (r : Request) → IsWire P.k w → request_over P S w ≡ Some r
      → StateHas P (cycle P S) (lower_end P.k w) (HasRequest P.k w.net r (lower_end P.k w))
  pub replies : (w : Wire) (y : Reply) → IsWire P.k w → reply_over P S w ≡ Some y
      → StateHas P (cycle P S) (upper_end w) (HasReply P.k w.net y (upper_end w))
  pub served : (m : ℕ) (s : ModuleState) (net : Net) (r : Request) → Exists P.k (ModuleAt m)
      → slice_get S (number_of P.k (ModuleAt m)) ≡ Some (Module s)
      → served_net s (depth_of P ModuleQueue) ≡ Some net → served_on s (Some net) ≡ Some r
      → StateHas P (cycle P S) (ModuleAt m) (HasAnswer net (record { tag = r.tag; word = word_at s.words r.place.row }))
  pub combined : (stage j : ℕ) (s : CombState) (w : Waiting) → Exists P.k (Switch CombNet stage j)
      → slice_get S (number_of P.k (Switch CombNet stage j)) ≡ Some (Comb s) → Contains s.wait.items w
      → StateHas P (cycle P S) (Switch CombNet stage j) (HasCombined (P.k - 1 - stage) w)

-- of every project, and of every whole state: of those that a run reaches, and of any other
abbrev pub NoMessageIsLost : Type 0
NoMessageIsLost = (P : Project) → IsProject P → (S : List MachineState) → LosesNothing P S
