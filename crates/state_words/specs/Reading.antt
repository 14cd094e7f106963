-- The component that a head and the words after it are: whatever they are, there is one, and that of a component's words is that one.
use Rattle.std.specs.Prelude.{ℕ, zero, suc, ◌*◌, ◌/◌, ◌%◌, ◌^◌, ◌==◌, Bool, if◌then◌else◌, min, List, [], ◌∷◌, drop, Option, None, Some, slice_index}
use Rattle.arrayvec.specs.ArrayVec.{ArrayVec}
use Rattle.omega_net.specs.Limits.{queue_places}
use Rattle.ref_proc.specs.declared.state.ProcState.{ProcState}
use Rattle.mem_module.specs.declared.words.Stored.{Stored}
use Rattle.mem_module.specs.declared.state.ModuleState.{ModuleState}
use Rattle.low_switch.specs.declared.state.LowState.{LowState}
use Rattle.comb_switch.specs.declared.state.CombState.{CombState}
use Rattle.state_words.specs.Messages.{net_from, request_from, out_from, reply_from, wait_from}

-- the messages that so many pairs of words are, and the words after them
abbrev pub messages_from : {T : Type 0} → (ℕ → ℕ → T) → ℕ → List ℕ → List T
messages_from from zero ws = []
messages_from from (suc n) ws = from (slice_index ws 0) (slice_index ws 1) ∷ messages_from from n (drop 2 ws)

abbrev pub after : ℕ → List ℕ → List ℕ
after n ws = drop (2 * n) ws

abbrev pub queue_from : {T : Type 0} → (ℕ → ℕ → T) → ℕ → List ℕ → ArrayVec T
queue_from from n ws = record { items = messages_from from n ws }

-- the queues of two ports
abbrev pub queues_from : {T : Type 0} → (ℕ → ℕ → T) → ℕ → ℕ → List ℕ → List (ArrayVec T)
queues_from from a b ws = queue_from from a ws ∷ queue_from from b (after a ws) ∷ []

-- a message that is there, or isn't
abbrev pub option_from : {T : Type 0} → (ℕ → ℕ → T) → Bool → List ℕ → Option T
option_from from there ws = if there then Some (from (slice_index ws 0) (slice_index ws 1)) else None

abbrev pub after_option : Bool → List ℕ → List ℕ
after_option there ws = if there then drop 2 ws else ws

-- a length of a queue, and a mark
abbrev pub count_in : ℕ → ℕ
count_in part = min (part % 2 ^ 5) queue_places

abbrev pub mark_in : ℕ → Bool
mark_in part = part % 2 == 1

-- the components that a head and what follows it are
abbrev pub proc_from : ℕ → List ℕ → ProcState
proc_from h ws =
    let out = mark_in (h / 2 ^ 2) in
    let first = mark_in (h / 2 ^ 3) in
    let ms = drop 1 ws in
    record {
      index = h / 2 ^ 6 % 2 ^ 16;
      spent = slice_index ws 0 % 2 ^ 32;
      issued = slice_index ws 0 / 2 ^ 32;
      pending = h / 2 ^ 22 % 2 ^ 32;
      out = option_from out_from out ms;
      got = option_from reply_from first (after_option out ms) ∷ option_from reply_from (mark_in (h / 2 ^ 4)) (after_option first (after_option out ms)) ∷ [];
      sent = mark_in (h / 2 ^ 5);
    }

-- the words after requests at two ports
abbrev pub after_requests : ℕ → List ℕ → List ℕ
after_requests h ws = after (count_in (h / 2 ^ 7)) (after (count_in (h / 2 ^ 2)) ws)

abbrev pub after_replies : ℕ → List ℕ → List ℕ
after_replies h ws = after (count_in (h / 2 ^ 17)) (after (count_in (h / 2 ^ 12)) (after_requests h ws))

abbrev pub module_from : ℕ → List ℕ → List Stored → ModuleState
module_from h ws memory = record {
  words = memory;
  requests = queues_from request_from (count_in (h / 2 ^ 2)) (count_in (h / 2 ^ 7)) ws;
  replies = queues_from reply_from (count_in (h / 2 ^ 12)) (count_in (h / 2 ^ 17)) (after_requests h ws);
  turn = net_from (h / 2 ^ 27 % 2);
  served = mark_in (h / 2 ^ 28);
}

abbrev pub low_from : ℕ → List ℕ → LowState
low_from h ws = record {
  fwd = queues_from request_from (count_in (h / 2 ^ 2)) (count_in (h / 2 ^ 7)) ws;
  rev = queues_from reply_from (count_in (h / 2 ^ 12)) (count_in (h / 2 ^ 17)) (after_requests h ws);
  turn = (h / 2 ^ 27 % 2 ^ 8) ∷ (h / 2 ^ 35 % 2 ^ 8) ∷ [];
  rturn = (h / 2 ^ 43 % 2 ^ 8) ∷ (h / 2 ^ 51 % 2 ^ 8) ∷ [];
}

abbrev pub comb_from : ℕ → List ℕ → CombState
comb_from h ws = record {
  fwd = queues_from request_from (count_in (h / 2 ^ 2)) (count_in (h / 2 ^ 7)) ws;
  rev = queues_from reply_from (count_in (h / 2 ^ 12)) (count_in (h / 2 ^ 17)) (after_requests h ws);
  wait = queue_from wait_from (count_in (h / 2 ^ 22)) (after_replies h ws);
  turn = (h / 2 ^ 27 % 2 ^ 8) ∷ (h / 2 ^ 35 % 2 ^ 8) ∷ [];
  rturn = h / 2 ^ 43 % 2 ^ 8;
  combined = h / 2 ^ 51 % 2 ^ 8;
}
