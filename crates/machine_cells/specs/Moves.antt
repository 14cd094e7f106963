-- Which messages move over which wires in one step, all decided on one whole state.
use Rattle.std.specs.Prelude.{ℕ, ◌-◌, Bool, true, false, if◌then◌else◌, List, [], ◌∷◌, ◌++◌, Option, None, Some, slice_get}
use Rattle.std.specs.List.{flat_map, filter_map}
use Rattle.omega_net.specs.declared.component.Net.TheVariants.{Low as LowNet, Comb as CombNet}
use Rattle.omega_net.specs.declared.component.Component.{Component}
use Rattle.omega_net.specs.declared.component.Component.TheVariants.{Proc as ProcAt, Module as ModuleAt, Switch}
use Rattle.omega_net.specs.declared.message.Request.{Request}
use Rattle.omega_net.specs.declared.message.Reply.{Reply}
use Rattle.omega_net.specs.Numbers.{number_of}
use Rattle.omega_net.specs.declared.wire.Wire.{Wire}
use Rattle.omega_net.specs.Wires.{upper_end, lower_end, output_of, input_of, wires, same_wire, bit}
use Rattle.ref_proc.specs.RefProc.{proc_request}
use Rattle.mem_module.specs.MemModule.{module_takes_request, module_reply}
use Rattle.low_switch.specs.LowSwitch.{low_takes_request, low_takes_reply, low_request, low_reply}
use Rattle.comb_switch.specs.CombSwitch.{comb_takes_request, comb_takes_reply, comb_request, comb_reply}
use Rattle.machine_cells.specs.declared.state.MachineState.{MachineState}
use Rattle.machine_cells.specs.declared.state.MachineState.TheVariants.{Proc, Module, Low, Comb}
use Rattle.project_book.specs.Project.{Project, forward, reverse, depth_of}
use Rattle.project_book.specs.declared.edit.Depths.TheVariants.{ModuleQueue}

-- the request that a component shows on a wire at its memory side; its state's kind alone decides
abbrev pub request_on : Wire → MachineState → Option Request
request_on w (Proc s) = proc_request s w.net
request_on w (Module s) = None
request_on w (Low s) = low_request s (output_of w)
request_on w (Comb s) = comb_request s (output_of w)

-- the reply that a component shows on a wire at its processor side
abbrev pub reply_on : ℕ → Wire → MachineState → Option Reply
reply_on k w (Proc s) = None
reply_on k w (Module s) = module_reply s w.net
reply_on k w (Low s) = low_reply s (input_of k w)
reply_on k w (Comb s) = comb_reply s (input_of k w)

-- whether a component takes this request from a wire at its processor side; a state of another kind than the
-- component's takes nothing
abbrev pub takes_request_at : Project → Wire → Request → Component → MachineState → Bool
takes_request_at P w r (ModuleAt m) (Module s) = module_takes_request s (depth_of P ModuleQueue) w.net
takes_request_at P w r (Switch LowNet stage j) (Low s) = low_takes_request s (forward P LowNet) (input_of P.k w) (bit (P.k - 1 - stage) r.place.«module»)
takes_request_at P w r (Switch CombNet stage j) (Comb s) = comb_takes_request s (forward P CombNet) (input_of P.k w) (bit (P.k - 1 - stage) r.place.«module»)
takes_request_at P w r _ _ = false

abbrev pub takes_request : Project → Wire → Request → MachineState → Bool
takes_request P w r s = takes_request_at P w r (lower_end P.k w) s

-- whether a component takes this reply from a wire at its memory side
abbrev pub takes_reply_at : Project → Wire → Reply → Component → MachineState → Bool
takes_reply_at P w y (ProcAt p) (Proc s) = true
takes_reply_at P w y (Switch LowNet stage j) (Low s) = low_takes_reply s (reverse P LowNet) (output_of w) (bit (P.k - 1 - stage) y.tag.proc)
takes_reply_at P w y (Switch CombNet stage j) (Comb s) = comb_takes_reply s (reverse P CombNet) (output_of w)
takes_reply_at P w y _ _ = false

abbrev pub takes_reply : Project → Wire → Reply → MachineState → Bool
takes_reply P w y s = takes_reply_at P w y (upper_end w) s

-- a message that its sender shows and its receiver takes
abbrev pub if_taken : {T : Type 0} → (T → Bool) → Option T → Option T
if_taken takes None = None
if_taken takes (Some m) = if takes m then Some m else None

-- the request and the reply that go over a wire between these two states
abbrev pub request_between : Project → Wire → MachineState → MachineState → Option Request
request_between P w upper lower = if_taken (λ r. takes_request P w r lower) (request_on w upper)

abbrev pub reply_between : Project → Wire → MachineState → MachineState → Option Reply
reply_between P w upper lower = if_taken (λ y. takes_reply P w y upper) (reply_on P.k w lower)

-- a fact of the states at both ends of a wire, where both are there
abbrev pub at_ends : {X : Type 0} → (MachineState → MachineState → Option X) → Option MachineState → Option MachineState → Option X
at_ends f (Some upper) (Some lower) = f upper lower
at_ends f None _ = None
at_ends f _ None = None

abbrev pub upper_state : Project → List MachineState → Wire → Option MachineState
upper_state P S w = slice_get S (number_of P.k (upper_end w))

abbrev pub lower_state : Project → List MachineState → Wire → Option MachineState
lower_state P S w = slice_get S (number_of P.k (lower_end P.k w))

-- the request, and the reply, that goes over a wire
abbrev pub request_over : Project → List MachineState → Wire → Option Request
request_over P S w = at_ends (request_between P w) (upper_state P S w) (lower_state P S w)

abbrev pub reply_over : Project → List MachineState → Wire → Option Reply
reply_over P S w = at_ends (reply_between P w) (upper_state P S w) (lower_state P S w)

-- a message, forward or back
pub data Message : Type 0 where
  forth : Request → Message
  back : Reply → Message

pub record Move : Type 0 where
  pub wire : Wire
  pub message : Message

abbrev pub forward_moves : Wire → Option Request → List Move
forward_moves w None = []
forward_moves w (Some r) = record { wire = w; message = forth r } ∷ []

abbrev pub back_moves : Wire → Option Reply → List Move
back_moves w None = []
back_moves w (Some y) = record { wire = w; message = back y } ∷ []

-- `moves`: all pairs of a wire and a message that goes over it
abbrev pub moves : Project → List MachineState → List Move
moves P S = flat_map (λ w. forward_moves w (request_over P S w) ++ back_moves w (reply_over P S w)) (wires P.k)

-- the request, and the reply, that such a list has on a wire
abbrev pub request_in : Message → Option Request
request_in (forth r) = Some r
request_in (back y) = None

abbrev pub reply_in : Message → Option Reply
reply_in (forth r) = None
reply_in (back y) = Some y

abbrev pub moved_request : List Move → Wire → Option Request
moved_request M w = slice_get (filter_map (λ m. if same_wire m.wire w then request_in m.message else None) M) 0

abbrev pub moved_reply : List Move → Wire → Option Reply
moved_reply M w = slice_get (filter_map (λ m. if same_wire m.wire w then reply_in m.message else None) M) 0
