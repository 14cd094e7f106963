-- A low switch: where it is ready, what it shows, and its step.
use Rattle.std.specs.Prelude.{ℕ, Bool, [], ◌∷◌, Option, is_some, slice_index}
use Rattle.arrayvec.specs.ArrayVec.{ArrayVec}
use Rattle.omega_net.specs.declared.message.Request.{Request}
use Rattle.omega_net.specs.declared.message.Reply.{Reply}
use Rattle.omega_net.specs.Queues.{has_room, head, queue_after, turn_after}
use Rattle.omega_net.specs.Ports.{empty, queue_at, message_at, mark_at, request_to, reply_to}
use Rattle.low_switch.specs.declared.state.LowState.{LowState}
use Rattle.omega_net.specs.declared.message.Traffic.{Traffic}

abbrev pub low_start : LowState
low_start = record { fwd = empty ∷ empty ∷ []; turn = 0 ∷ 0 ∷ []; rev = empty ∷ empty ∷ []; rturn = 0 ∷ 0 ∷ [] }

-- ready for input i into output queue o, at this depth; and for side o into reverse queue i
abbrev pub low_takes_request : LowState → ℕ → ℕ → ℕ → Bool
low_takes_request s depth i o = has_room depth (queue_at s.fwd o) (slice_index s.turn o) i

abbrev pub low_takes_reply : LowState → ℕ → ℕ → ℕ → Bool
low_takes_reply s depth o i = has_room depth (queue_at s.rev i) (slice_index s.rturn i) o

-- the heads that it shows
abbrev pub low_request : LowState → ℕ → Option Request
low_request s o = head (queue_at s.fwd o)

abbrev pub low_reply : LowState → ℕ → Option Reply
low_reply s i = head (queue_at s.rev i)

-- what goes from input i to output o, and from side o to input i
abbrev pub request_through : ℕ → Traffic → ℕ → ℕ → Option Request
request_through b t i o = request_to b o (message_at t.requests i)

abbrev pub reply_through : ℕ → Traffic → ℕ → ℕ → Option Reply
reply_through b t o i = reply_to b i (message_at t.replies o)

-- the output queue o and its turn one cycle later, and the reverse queue i and its turn
abbrev pub fwd_after : ℕ → Traffic → LowState → ℕ → ArrayVec Request
fwd_after b t s o = queue_after (mark_at t.requests_leave o) (request_through b t 0 o) (request_through b t 1 o) (queue_at s.fwd o)

abbrev pub fwd_turn_after : ℕ → Traffic → LowState → ℕ → ℕ
fwd_turn_after b t s o = turn_after (slice_index s.turn o) (is_some (request_through b t 0 o)) (is_some (request_through b t 1 o))

abbrev pub rev_after : ℕ → Traffic → LowState → ℕ → ArrayVec Reply
rev_after b t s i = queue_after (mark_at t.replies_leave i) (reply_through b t 0 i) (reply_through b t 1 i) (queue_at s.rev i)

abbrev pub rev_turn_after : ℕ → Traffic → LowState → ℕ → ℕ
rev_turn_after b t s i = turn_after (slice_index s.rturn i) (is_some (reply_through b t 0 i)) (is_some (reply_through b t 1 i))

-- the step: bit b of the module and of the processor decides
abbrev pub low_after : ℕ → Traffic → LowState → LowState
low_after b t s = record {
  fwd = fwd_after b t s 0 ∷ fwd_after b t s 1 ∷ [];
  turn = fwd_turn_after b t s 0 ∷ fwd_turn_after b t s 1 ∷ [];
  rev = rev_after b t s 0 ∷ rev_after b t s 1 ∷ [];
  rturn = rev_turn_after b t s 0 ∷ rev_turn_after b t s 1 ∷ [];
}
