-- A message of a project's machine that doesn't leave is there one cycle later: in its queue at its place, in its processor, or in its wait buffer.
use Rattle.std.specs.Prelude.{◌≡◌, ◌≢◌, ℕ, ◌<◌, Bool, true, false, List, [], drop, is_some, Some, slice_get, ◌⊎◌}
use Rattle.std.specs.List.{Contains}
use Rattle.std.specs.Option.{option_to_list}
use Rattle.omega_net.specs.declared.component.Net.{Net}
use Rattle.omega_net.specs.declared.component.Net.TheVariants.{Low as LowNet, Comb as CombNet}
use Rattle.omega_net.specs.declared.component.Component.{Component}
use Rattle.omega_net.specs.declared.component.Component.TheVariants.{Proc as ProcAt, Module as ModuleAt, Switch}
use Rattle.omega_net.specs.declared.message.Request.{Request}
use Rattle.omega_net.specs.declared.message.Reply.{Reply}
use Rattle.omega_net.specs.declared.wire.Wire.{Wire}
use Rattle.omega_net.specs.Numbers.{number_of, Exists}
use Rattle.omega_net.specs.Wires.{IsWire, upper_end, lower_end, output_of, input_of, net_number, wire_into, wire_out}
use Rattle.omega_net.specs.Ports.{queue_at}
use Rattle.ref_proc.specs.RefProc.{proc_request}
use Rattle.mem_module.specs.declared.state.ModuleState.{ModuleState}
use Rattle.mem_module.specs.MemModule.{served_net, is_net}
use Rattle.comb_switch.specs.declared.waiting.Waiting.{Waiting}
use Rattle.comb_switch.specs.declared.state.CombState.{CombState}
use Rattle.comb_switch.specs.CombSwitch.{both}
use Rattle.machine_cells.specs.declared.state.MachineState.{MachineState}
use Rattle.machine_cells.specs.declared.state.MachineState.TheVariants.{Proc, Module, Low, Comb}
use Rattle.project_book.specs.Project.{Project, IsProject, depth_of}
use Rattle.project_book.specs.declared.edit.Depths.TheVariants.{ModuleQueue}
use Rattle.machine_cells.specs.Moves.{request_over, reply_over}
use Rattle.machine_cells.specs.Cycle.{cycle}
use Rattle.machine_cells.specs.Kept.{StateHas}

-- the requests that wait in a component to go over a wire at its memory side, the next one first; a state of another kind
-- than the component's holds none
abbrev pub requests_at : Wire → Component → MachineState → List Request
requests_at w (ProcAt p) (Proc s) = option_to_list (proc_request s w.net)
requests_at w (Switch LowNet stage j) (Low s) = (queue_at s.fwd (output_of w)).items
requests_at w (Switch CombNet stage j) (Comb s) = (queue_at s.fwd (output_of w)).items
requests_at w _ _ = []

-- the replies that wait there to go over one at its processor side
abbrev pub replies_at : ℕ → Wire → Component → MachineState → List Reply
replies_at k w (ModuleAt m) (Module s) = (queue_at s.replies (net_number w.net)).items
replies_at k w (Switch LowNet stage j) (Low s) = (queue_at s.rev (input_of k w)).items
replies_at k w (Switch CombNet stage j) (Comb s) = (queue_at s.rev (input_of k w)).items
replies_at k w _ _ = []

-- those that stay: all of them, or all but the first where that leaves
abbrev pub staying : {T : Type 0} → Bool → List T → List T
staying true waiting = drop 1 waiting
staying false waiting = waiting

-- a request that stayed: as it was, or in a combining switch with the operation of one that came there in this cycle
abbrev pub HasStayed : Project → List MachineState → Component → Request → Request → Type 0
HasStayed P S (Switch CombNet stage j) old new =
    (new ≡ old) ⊎ ((i : ℕ) × (other : Request) × (i < 2) × (request_over P S (wire_into P.k CombNet stage j i) ≡ Some other) × (new ≡ both old other))
HasStayed P S _ old new = new ≡ old

-- a component has such a one at that place of those that wait for the wire; and a reply
abbrev pub HasRequestAt : Project → List MachineState → Wire → Component → ℕ → Request → MachineState → Type 0
HasRequestAt P S w x n r s = (q : Request) × (slice_get (requests_at w x s) n ≡ Some q) × HasStayed P S x r q

abbrev pub HasReplyAt : ℕ → Wire → Component → ℕ → Reply → MachineState → Type 0
HasReplyAt k w x n y s = slice_get (replies_at k w x s) n ≡ Some y

-- a module has a request at that place of those that wait for its service
abbrev pub HasAskedAt : Net → ℕ → Request → MachineState → Type 0
HasAskedAt net n r (Module s) = slice_get (queue_at s.requests (net_number net)).items n ≡ Some r
HasAskedAt net n r _ = ⊥

-- a combining switch has an entry in its wait buffer
abbrev pub HasWaiting : Waiting → MachineState → Type 0
HasWaiting e (Comb s) = Contains s.wait.items e
HasWaiting e _ = ⊥

-- one cycle later each request and reply that waited and didn't go over its wire stands where it stood, or one place nearer the
-- head where the first one went; so does each request that a module didn't serve; and each entry of a wait buffer to whose first
-- request no reply came waits on
pub record KeepsWhatStays (P : Project) (S : List MachineState) : Type 0 where
  pub requests : (w : Wire) (s : MachineState) (n : ℕ) (r : Request) → IsWire P.k w → slice_get S (number_of P.k (upper_end w)) ≡ Some s
      → slice_get (staying (is_some (request_over P S w)) (requests_at w (upper_end w) s)) n ≡ Some r
      → StateHas P (cycle P S) (upper_end w) (HasRequestAt P S w (upper_end w) n r)
  pub replies : (w : Wire) (s : MachineState) (n : ℕ) (y : Reply) → IsWire P.k w → slice_get S (number_of P.k (lower_end P.k w)) ≡ Some s
      → slice_get (staying (is_some (reply_over P S w)) (replies_at P.k w (lower_end P.k w) s)) n ≡ Some y
      → StateHas P (cycle P S) (lower_end P.k w) (HasReplyAt P.k w (lower_end P.k w) n y)
  pub asked : (m : ℕ) (s : ModuleState) (net : Net) (n : ℕ) (r : Request) → Exists P.k (ModuleAt m)
      → slice_get S (number_of P.k (ModuleAt m)) ≡ Some (Module s)
      → slice_get (staying (is_net net (served_net s (depth_of P ModuleQueue))) (queue_at s.requests (net_number net)).items) n ≡ Some r
      → StateHas P (cycle P S) (ModuleAt m) (HasAskedAt net n r)
  pub waiting : (stage j : ℕ) (s : CombState) (e : Waiting) → Exists P.k (Switch CombNet stage j)
      → slice_get S (number_of P.k (Switch CombNet stage j)) ≡ Some (Comb s) → Contains s.wait.items e
      → ((o : ℕ) (y : Reply) → o < 2 → reply_over P S (wire_out CombNet stage j o) ≡ Some y → y.tag ≢ e.first)
      → StateHas P (cycle P S) (Switch CombNet stage j) (HasWaiting e)

-- of every project, and of every whole state
abbrev pub MessagesStay : Type 0
MessagesStay = (P : Project) → IsProject P → (S : List MachineState) → KeepsWhatStays P S
