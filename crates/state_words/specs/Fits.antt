-- What is true of every component: its numbers fit their types, it has two ports, and queues have at most 16 messages.
use Rattle.std.specs.Prelude.{◌≡◌, ℕ, ◌^◌, ◌<◌, ◌≤◌, List, length, All, Option, None, Some, slice_index}
use Rattle.arrayvec.specs.ArrayVec.{ArrayVec}
use Rattle.omega_net.specs.declared.message.Tag.{Tag}
use Rattle.omega_net.specs.declared.message.Request.{Request}
use Rattle.omega_net.specs.declared.message.Reply.{Reply}
use Rattle.omega_net.specs.Limits.{queue_places}
use Rattle.omega_net.specs.Ports.{queue_at, message_at}
use Rattle.ref_proc.specs.declared.state.Outgoing.{Outgoing}
use Rattle.ref_proc.specs.declared.state.ProcState.{ProcState}
use Rattle.mem_module.specs.declared.state.ModuleState.{ModuleState}
use Rattle.low_switch.specs.declared.state.LowState.{LowState}
use Rattle.comb_switch.specs.declared.waiting.Waiting.{Waiting}
use Rattle.comb_switch.specs.declared.state.CombState.{CombState}

pub record IsTag (t : Tag) : Type 0 where
  pub proc : t.proc < 2 ^ 8
  pub issue : t.issue < 2 ^ 32

pub record IsRequest (r : Request) : Type 0 where
  pub tag : IsTag r.tag
  pub «module» : r.place.«module» < 2 ^ 8
  pub row : r.place.row < 2 ^ 16
  pub operand : r.op.operand < 2 ^ 32

pub record IsOutgoing (o : Outgoing) : Type 0 where
  pub request : IsRequest o.request

pub record IsReply (r : Reply) : Type 0 where
  pub tag : IsTag r.tag
  pub word : r.word < 2 ^ 32

pub record IsWaiting (w : Waiting) : Type 0 where
  pub first : IsTag w.first
  pub operand : w.op.operand < 2 ^ 32
  pub second : IsTag w.second

-- a queue of such messages
pub record IsQueue {T : Type 0} (Is : T → Type 0) (q : ArrayVec T) : Type 0 where
  pub fits : length q.items ≤ queue_places
  pub each : All Is q.items

-- the queues of two ports
pub record AreQueues {T : Type 0} (Is : T → Type 0) (qs : List (ArrayVec T)) : Type 0 where
  pub two : length qs ≡ 2
  pub first : IsQueue Is (queue_at qs 0)
  pub second : IsQueue Is (queue_at qs 1)

-- two numbers of 8 bits
pub record AreTurns (turns : List ℕ) : Type 0 where
  pub two : length turns ≡ 2
  pub first : slice_index turns 0 < 2 ^ 8
  pub second : slice_index turns 1 < 2 ^ 8

-- a message that is there
abbrev pub IfThere : {T : Type 0} → (T → Type 0) → Option T → Type 0
IfThere Is None = Unit {0}
IfThere Is (Some m) = Is m

pub record IsProc (s : ProcState) : Type 0 where
  pub index : s.index < 2 ^ 16
  pub spent : s.spent < 2 ^ 32
  pub issued : s.issued < 2 ^ 32
  pub pending : s.pending < 2 ^ 32
  pub out : IfThere IsOutgoing s.out
  pub two : length s.got ≡ 2
  pub first : IfThere IsReply (message_at s.got 0)
  pub second : IfThere IsReply (message_at s.got 1)

pub record IsModule (s : ModuleState) : Type 0 where
  pub requests : AreQueues IsRequest s.requests
  pub replies : AreQueues IsReply s.replies

pub record IsLow (s : LowState) : Type 0 where
  pub fwd : AreQueues IsRequest s.fwd
  pub rev : AreQueues IsReply s.rev
  pub turn : AreTurns s.turn
  pub rturn : AreTurns s.rturn

pub record IsComb (s : CombState) : Type 0 where
  pub fwd : AreQueues IsRequest s.fwd
  pub rev : AreQueues IsReply s.rev
  pub wait : IsQueue IsWaiting s.wait
  pub turn : AreTurns s.turn
  pub rturn : s.rturn < 2 ^ 8
  pub combined : s.combined < 2 ^ 8
