-- Components as words of 64 bits: a head, which has the kind of the component, the lengths of its queues and what is small; then the
-- messages, two words each. A module's words of memory are not among them.
use Rattle.std.specs.Prelude.{ℕ, ◌+◌, ◌*◌, ◌/◌, ◌%◌, ◌^◌, ◌==◌, Bool, if◌then◌else◌, List, [], ◌∷◌, length, Option, is_some, slice_index, option_to_list}
use Rattle.arrayvec.specs.ArrayVec.{ArrayVec}
use Rattle.omega_net.specs.declared.message.Request.{Request}
use Rattle.omega_net.specs.declared.message.Reply.{Reply}
use Rattle.omega_net.specs.Wires.{net_number}
use Rattle.omega_net.specs.Ports.{queue_at, message_at}
use Rattle.ref_proc.specs.declared.state.ProcState.{ProcState}
use Rattle.mem_module.specs.declared.state.ModuleState.{ModuleState}
use Rattle.low_switch.specs.declared.state.LowState.{LowState}
use Rattle.comb_switch.specs.declared.state.CombState.{CombState}
use Rattle.state_words.specs.Messages.{request_first, request_second, out_first, out_second, reply_first, reply_second, wait_first, wait_second, message_words}

-- a mark as a number
abbrev pub one_if : Bool → ℕ
one_if b = if b then 1 else 0

-- how many messages wait at a port
abbrev pub size_at : {T : Type 0} → List (ArrayVec T) → ℕ → ℕ
size_at qs i = length (queue_at qs i).items

-- the head of what has up to five queues: its kind, their lengths and what is small
abbrev pub queues_head : ℕ → ℕ → ℕ → ℕ → ℕ → ℕ → ℕ → ℕ
queues_head kind a b c d e small = kind + 2 ^ 2 * a + 2 ^ 7 * b + 2 ^ 12 * c + 2 ^ 17 * d + 2 ^ 22 * e + 2 ^ 27 * small

-- four bytes, the lowest first
abbrev pub bytes : ℕ → ℕ → ℕ → ℕ → ℕ
bytes a b c d = a + 2 ^ 8 * b + 2 ^ 16 * c + 2 ^ 24 * d

-- the heads of the four kinds: 0 a processor, 1 a module, 2 a low switch, 3 a combining one
abbrev pub proc_head : ProcState → ℕ
proc_head s =
    2 ^ 2 * one_if (is_some s.out) + 2 ^ 3 * one_if (is_some (message_at s.got 0)) + 2 ^ 4 * one_if (is_some (message_at s.got 1))
    + 2 ^ 5 * one_if s.sent + 2 ^ 6 * s.index + 2 ^ 22 * s.pending

abbrev pub module_head : ModuleState → ℕ
module_head s =
    queues_head 1 (size_at s.requests 0) (size_at s.requests 1) (size_at s.replies 0) (size_at s.replies 1) 0 (net_number s.turn + 2 * one_if s.served)

abbrev pub low_head : LowState → ℕ
low_head s =
    queues_head 2 (size_at s.fwd 0) (size_at s.fwd 1) (size_at s.rev 0) (size_at s.rev 1) 0
    (bytes (slice_index s.turn 0) (slice_index s.turn 1) (slice_index s.rturn 0) (slice_index s.rturn 1))

abbrev pub comb_head : CombState → ℕ
comb_head s =
    queues_head 3 (size_at s.fwd 0) (size_at s.fwd 1) (size_at s.rev 0) (size_at s.rev 1) (length s.wait.items)
    (bytes (slice_index s.turn 0) (slice_index s.turn 1) s.rturn s.combined)

-- the words of the messages at two ports, and what follows them
abbrev pub ports_words : {T : Type 0} → (T → ℕ) → (T → ℕ) → List (ArrayVec T) → List ℕ → List ℕ
ports_words first second qs rest = message_words first second (queue_at qs 0).items (message_words first second (queue_at qs 1).items rest)

-- requests and replies in turn
abbrev pub queues_words : List (ArrayVec Request) → List (ArrayVec Reply) → List ℕ → List ℕ
queues_words requests replies rest = ports_words request_first request_second requests (ports_words reply_first reply_second replies rest)

-- a message that is there, or isn't
abbrev pub option_words : {T : Type 0} → (T → ℕ) → (T → ℕ) → Option T → List ℕ → List ℕ
option_words first second o rest = message_words first second (option_to_list o) rest

-- what follows the head
abbrev pub proc_body : ProcState → List ℕ
proc_body s =
    (s.spent + 2 ^ 32 * s.issued)
    ∷ option_words out_first out_second s.out
    (option_words reply_first reply_second (message_at s.got 0) (option_words reply_first reply_second (message_at s.got 1) []))

abbrev pub module_body : ModuleState → List ℕ
module_body s = queues_words s.requests s.replies []

abbrev pub low_body : LowState → List ℕ
low_body s = queues_words s.fwd s.rev []

abbrev pub comb_body : CombState → List ℕ
comb_body s = queues_words s.fwd s.rev (message_words wait_first wait_second s.wait.items [])

-- how many words a state with this head has
abbrev pub length_of : ℕ → ℕ
length_of head =
    if head % 2 ^ 2 == 0
    then 2 + 2 * (head / 2 ^ 2 % 2 + head / 2 ^ 3 % 2 + head / 2 ^ 4 % 2)
    else 1 + 2 * (head / 2 ^ 2 % 2 ^ 5 + head / 2 ^ 7 % 2 ^ 5 + head / 2 ^ 12 % 2 ^ 5 + head / 2 ^ 17 % 2 ^ 5 + head / 2 ^ 22 % 2 ^ 5)
