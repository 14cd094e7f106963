-- When the marks of two levels, and the turns between them, are those of a whole state at a stage.
use Rattle.std.specs.Prelude.{◌≡◌, ℕ, suc, ◌+◌, ◌-◌, ◌*◌, ◌^◌, ◌<◌, nat_le, ◌&&◌, true, false, List, Option, None, Some, is_some, slice_get, slice_index}
use Rattle.omega_net.specs.declared.component.Net.{Net}
use Rattle.omega_net.specs.declared.component.Net.TheVariants.{Low as LowNet, Comb as CombNet}
use Rattle.omega_net.specs.declared.component.Component.TheVariants.{Switch, Proc as ProcAt, Module as ModuleAt}
use Rattle.omega_net.specs.declared.message.Request.{Request}
use Rattle.omega_net.specs.declared.message.Reply.{Reply}
use Rattle.omega_net.specs.declared.wire.Wire.{Wire}
use Rattle.omega_net.specs.Numbers.{lines, half, number_of}
use Rattle.omega_net.specs.Wires.{bit, net_number}
use Rattle.omega_net.specs.Queues.{free, head}
use Rattle.omega_net.specs.Ports.{queue_at}
use Rattle.machine_cells.specs.declared.state.MachineState.{MachineState}
use Rattle.machine_cells.specs.declared.state.MachineState.TheVariants.{Proc, Module, Low, Comb}
use Rattle.project_book.specs.Project.{Project, IsProject, forward, reverse, depth_of}
use Rattle.project_book.specs.declared.edit.Depths.TheVariants.{ModuleQueue}
use Rattle.ref_proc.specs.declared.state.ProcState.{ProcState}
use Rattle.ref_proc.specs.RefProc.{net_for}
use Rattle.mem_module.specs.declared.state.ModuleState.{ModuleState}
use Rattle.mem_module.specs.MemModule.{served_net}
use Rattle.machine_cells.specs.Moves.{moves, moved_request, moved_reply, request_on, reply_on, upper_state, lower_state}
use Rattle.flat_row.specs.declared.marks.Marks.{Marks}
use Rattle.flat_row.specs.Labels.{label, switch_label}
use Rattle.flat_row.specs.Masks.{has, IsSetOf}
use Rattle.flat_row.specs.declared.decide.Heads.{Heads}
use Rattle.flat_row.specs.declared.decide.Room.{Room}
use Rattle.flat_row.specs.Decisions.{leaves, leaves_both, served_at}

-- the wire of a line before a stage, or behind the last
abbrev pub on_line : Net → ℕ → ℕ → Wire
on_line net stage l = record { net = net; stage = stage; line = l }

-- the marks say of label x that this is the head there, where bit b of its route is asked
abbrev pub IsHead : {T : Type 0} → (T → ℕ) → Marks → ℕ → ℕ → Option T → Type 0
IsHead route marks b x None = has marks.any x ≡ false
IsHead route marks b x (Some m) = (has marks.any x ≡ true) × (bit x marks.asks ≡ bit b (route m))

-- the marks say of label y that there are so many free places, where so many are room for two and for one
abbrev pub IsRoom : ℕ → ℕ → Marks → ℕ → ℕ → Type 0
IsRoom two one marks y places = (has marks.two y ≡ nat_le two places) × (has marks.one y ≡ nat_le one places)

-- a switch of a network, by its queues of requests and of replies, and their turns
abbrev pub IsLowQueues : Project → Marks → ℕ → ℕ → ℕ → MachineState → Type 0
IsLowQueues P marks turn o y (Low t) = IsRoom 2 1 marks y (free (forward P LowNet) (queue_at t.fwd o)) × (bit y turn ≡ slice_index t.turn o)
IsLowQueues P marks turn o y _ = ⊥

abbrev pub IsCombQueues : Project → Marks → ℕ → ℕ → ℕ → MachineState → Type 0
IsCombQueues P marks turn o y (Comb t) = IsRoom 2 1 marks y (free (forward P CombNet) (queue_at t.fwd o)) × (bit y turn ≡ slice_index t.turn o)
IsCombQueues P marks turn o y _ = ⊥

abbrev pub IsQueues : Net → Project → Marks → ℕ → ℕ → ℕ → MachineState → Type 0
IsQueues LowNet P marks turn o y t = IsLowQueues P marks turn o y t
IsQueues CombNet P marks turn o y t = IsCombQueues P marks turn o y t

abbrev pub IsLowBack : Project → Marks → ℕ → ℕ → ℕ → MachineState → Type 0
IsLowBack P marks turn i y (Low t) = IsRoom 2 1 marks y (free (reverse P LowNet) (queue_at t.rev i)) × (bit y turn ≡ slice_index t.rturn i)
IsLowBack P marks turn i y _ = ⊥

abbrev pub IsCombBack : Project → Marks → ℕ → ℕ → ℕ → MachineState → Type 0
IsCombBack P marks turn x y (Comb t) =
    IsRoom 4 2 marks x (free (reverse P CombNet) (queue_at t.rev 0)) × IsRoom 4 2 marks y (free (reverse P CombNet) (queue_at t.rev 1)) × (bit x turn ≡ t.rturn)
IsCombBack P marks turn x y _ = ⊥

-- the states of a whole state S that stand at the ends of a stage's wires
abbrev pub StateAt : Project → List MachineState → Net → ℕ → ℕ → (MachineState → Type 0) → Type 0
StateAt P S net stage j fact = (t : MachineState) × (slice_get S (number_of P.k (Switch net stage j)) ≡ Some t) × fact t

-- the marks before a stage are those of the requests that are shown there, and those behind it, with the turns, of its switches' queues
pub record ShowsRequests (P : Project) (S : List MachineState) (net : Net) (stage : ℕ) (before behind : Marks) (turn : ℕ) : Type 0 where
  pub heads : (l : ℕ) → l < lines P.k → (u : MachineState) × (upper_state P S (on_line net stage l) ≡ Some u)
      × IsHead (λ (r : Request). r.place.«module») before (P.k - 1 - stage) (label P.k (on_line net stage l)) (request_on (on_line net stage l) u)
  pub queues : (j : ℕ) → j < half P.k
      → StateAt P S net stage j (λ t. (o : ℕ) → o < 2 → IsQueues net P behind turn o (switch_label P.k stage j + o * 2 ^ (P.k - 1 - stage)) t)

-- the marks behind a stage are those of the replies that are shown there, and those before it, with the turns, of its switches' queues
pub record ShowsLowReplies (P : Project) (S : List MachineState) (stage : ℕ) (behind before : Marks) (turn : ℕ) : Type 0 where
  pub heads : (l : ℕ) → l < lines P.k → (u : MachineState) × (lower_state P S (on_line LowNet (suc stage) l) ≡ Some u)
      × IsHead (λ (y : Reply). y.tag.proc) behind (P.k - 1 - stage) (label P.k (on_line LowNet (suc stage) l)) (reply_on P.k (on_line LowNet (suc stage) l) u)
  pub queues : (j : ℕ) → j < half P.k
      → StateAt P S LowNet stage j (λ t. (i : ℕ) → i < 2 → IsLowBack P before turn i (switch_label P.k stage j + i * 2 ^ (P.k - 1 - stage)) t)

pub record ShowsCombReplies (P : Project) (S : List MachineState) (stage : ℕ) (behind before : Marks) (turn : ℕ) : Type 0 where
  pub heads : (l : ℕ) → l < lines P.k → (u : MachineState) × (lower_state P S (on_line CombNet (suc stage) l) ≡ Some u)
      × (has behind.any (label P.k (on_line CombNet (suc stage) l)) ≡ is_some (reply_on P.k (on_line CombNet (suc stage) l) u))
  pub queues : (j : ℕ) → j < half P.k
      → StateAt P S CombNet stage j (IsCombBack P before turn (switch_label P.k stage j) (switch_label P.k stage j + 2 ^ (P.k - 1 - stage)))

-- what marks show to a stage
abbrev pub heads_of : Marks → Heads
heads_of marks = record { any = marks.any; ones = marks.asks }

abbrev pub room_of : Marks → Room
room_of marks = record { two = marks.two; one = marks.one }

-- where marks and turns are those of a whole state, what a stage decides is what moves over its wires: a label is in the set of
-- those that leave exactly where a message moves over the wire of that label
pub record StageDecides (P : Project) (S : List MachineState) (stage : ℕ) : Type 0 where
  pub requests : (net : Net) (before behind : Marks) (turn leave : ℕ) → ShowsRequests P S net stage before behind turn
      → IsSetOf (leaves (P.k - 1 - stage) (heads_of before) (room_of behind) turn) leave
      → (l : ℕ) → l < lines P.k → has leave (label P.k (on_line net stage l)) ≡ is_some (moved_request (moves P S) (on_line net stage l))
  pub low_replies : (behind before : Marks) (turn leave : ℕ) → ShowsLowReplies P S stage behind before turn
      → IsSetOf (leaves (P.k - 1 - stage) (heads_of behind) (room_of before) turn) leave
      → (l : ℕ) → l < lines P.k → has leave (label P.k (on_line LowNet (suc stage) l)) ≡ is_some (moved_reply (moves P S) (on_line LowNet (suc stage) l))
  pub comb_replies : (behind before : Marks) (turn leave : ℕ) → ShowsCombReplies P S stage behind before turn
      → IsSetOf (leaves_both (P.k - 1 - stage) behind.any (room_of before) turn) leave
      → (l : ℕ) → l < lines P.k → has leave (label P.k (on_line CombNet (suc stage) l)) ≡ is_some (moved_reply (moves P S) (on_line CombNet (suc stage) l))

abbrev pub StagesDecide : Type 0
StagesDecide = (P : Project) → IsProject P → (S : List MachineState) (stage : ℕ) → stage < P.k → StageDecides P S stage

-- the marks before the modules are those of the requests that are shown there, and those of their queues are as the modules have them
pub record ShowsEntering (P : Project) (S : List MachineState) (net : Net) (before behind : Marks) : Type 0 where
  pub heads : (l : ℕ) → l < lines P.k → (u : MachineState) × (upper_state P S (on_line net P.k l) ≡ Some u)
      × (has before.any (label P.k (on_line net P.k l)) ≡ is_some (request_on (on_line net P.k l) u))
  pub modules : (m : ℕ) → m < lines P.k → (s : ModuleState) × (slice_get S (number_of P.k (ModuleAt m)) ≡ Some (Module s))
      × (has behind.one m ≡ nat_le 1 (free (depth_of P ModuleQueue) (queue_at s.requests (net_number net))))

-- the marks behind the processors are those of the replies that are shown there, and processors are where they should be
pub record ShowsReceived (P : Project) (S : List MachineState) (net : Net) (behind : Marks) : Type 0 where
  pub heads : (l : ℕ) → l < lines P.k → (u : MachineState) × (lower_state P S (on_line net 0 l) ≡ Some u)
      × (has behind.any (label P.k (on_line net 0 l)) ≡ is_some (reply_on P.k (on_line net 0 l) u))
  pub processors : (p : ℕ) → p < lines P.k → (s : ProcState) × (slice_get S (number_of P.k (ProcAt p)) ≡ Some (Proc s))

-- marks and turns are those of a module: of its queues of requests and of replies, on both networks
pub record ShowsModule (P : Project) (s : ModuleState) (m : ℕ) (low_requests comb_requests low_replies comb_replies : Marks) (turn : ℕ) : Type 0 where
  pub low_any : has low_requests.any m ≡ is_some (head (queue_at s.requests 0))
  pub comb_any : has comb_requests.any m ≡ is_some (head (queue_at s.requests 1))
  pub low_room : has low_replies.one m ≡ nat_le 1 (free (depth_of P ModuleQueue) (queue_at s.replies 0))
  pub comb_room : has comb_replies.one m ≡ nat_le 1 (free (depth_of P ModuleQueue) (queue_at s.replies 1))
  pub turns : net_for (has turn m) ≡ s.turn

-- a request moves into a module, and a reply into a processor, exactly where its label is in these sets; and a module serves what
-- these sets say
pub record EndDecides (P : Project) (S : List MachineState) : Type 0 where
  pub requests : (net : Net) (before behind : Marks) → ShowsEntering P S net before behind
      → (l : ℕ) → l < lines P.k → (has before.any (label P.k (on_line net P.k l)) && has behind.one (label P.k (on_line net P.k l)))
      ≡ is_some (moved_request (moves P S) (on_line net P.k l))
  pub replies : (net : Net) (behind : Marks) → ShowsReceived P S net behind
      → (l : ℕ) → l < lines P.k → has behind.any (label P.k (on_line net 0 l)) ≡ is_some (moved_reply (moves P S) (on_line net 0 l))
  pub served : (s : ModuleState) (m low comb turn : ℕ) (low_requests comb_requests low_replies comb_replies : Marks) → m < lines P.k
      → ShowsModule P s m low_requests comb_requests low_replies comb_replies turn
      → IsSetOf (λ x. has low_requests.any x && has low_replies.one x) low → IsSetOf (λ x. has comb_requests.any x && has comb_replies.one x) comb
      → served_at low comb turn m ≡ served_net s (depth_of P ModuleQueue)

abbrev pub EndsDecide : Type 0
EndsDecide = (P : Project) → IsProject P → (S : List MachineState) → EndDecides P S
