-- A memory module: where it is ready, what it shows, and its step. Serving is a fetch-and-op, which answers the old word and leaves
-- the new one indivisibly (Pfister and others, RP3, 1985); that it serves one request in a cycle, by turns, is this machine's.
use Rattle.std.specs.Prelude.{ℕ, ◌==◌, ◌&&◌, nat_le, Bool, true, false, List, [], ◌∷◌, Option, None, Some, is_some}
use Rattle.arrayvec.specs.ArrayVec.{ArrayVec}
use Rattle.word_ops.specs.Words.{word_after}
use Rattle.omega_net.specs.declared.component.Net.{Net}
use Rattle.omega_net.specs.declared.component.Net.TheVariants.{Low, Comb}
use Rattle.omega_net.specs.declared.message.Request.{Request}
use Rattle.omega_net.specs.declared.message.Reply.{Reply}
use Rattle.omega_net.specs.Wires.{net_number}
use Rattle.omega_net.specs.Queues.{free, head, queue_after}
use Rattle.omega_net.specs.Ports.{empty, queue_at, message_at, mark_at}
use Rattle.mem_module.specs.declared.words.Stored.{Stored}
use Rattle.mem_module.specs.declared.state.ModuleState.{ModuleState}
use Rattle.mem_module.specs.declared.step.ModuleTraffic.{ModuleTraffic}
use Rattle.mem_module.specs.Memory.{word_at, with_word}

-- the first state, with these words: nothing waits, and the turn is the low network's
abbrev pub module_start : List Stored → ModuleState
module_start words = record { words = words; requests = empty ∷ empty ∷ []; replies = empty ∷ empty ∷ []; turn = Low; served = false }

-- ready for a request on a network, where its queue has a free place at this depth
abbrev pub module_takes_request : ModuleState → ℕ → Net → Bool
module_takes_request s depth net = nat_le 1 (free depth (queue_at s.requests (net_number net)))

-- the reply that it shows on a network
abbrev pub module_reply : ModuleState → Net → Option Reply
module_reply s net = head (queue_at s.replies (net_number net))

-- whether it can serve a network: a request is there, and a free place for its reply
abbrev pub can_serve : ModuleState → ℕ → Net → Bool
can_serve s depth net =
    is_some (head (queue_at s.requests (net_number net))) && nat_le 1 (free depth (queue_at s.replies (net_number net)))

-- the other network
abbrev pub other_net : Net → Net
other_net Low = Comb
other_net Comb = Low

-- the network that it serves: the one of its turn where it can serve both
abbrev pub chosen : Bool → Bool → Net → Option Net
chosen true true turn = Some turn
chosen true false turn = Some Low
chosen false true turn = Some Comb
chosen false false turn = None

-- the same, from its state
abbrev pub served_net : ModuleState → ℕ → Option Net
served_net s depth = chosen (can_serve s depth Low) (can_serve s depth Comb) s.turn

-- whether that network is the one served
abbrev pub is_net : Net → Option Net → Bool
is_net net None = false
is_net net (Some n) = net_number n == net_number net

-- the request that it serves
abbrev pub served_on : ModuleState → Option Net → Option Request
served_on s None = None
served_on s (Some net) = head (queue_at s.requests (net_number net))

-- the reply to a request: the old word of its row, under its tag
abbrev pub answer_to : List Stored → Option Request → Option Reply
answer_to words None = None
answer_to words (Some r) = Some (record { tag = r.tag; word = word_at words r.place.row })

-- the reply on a network, which only the one served gets
abbrev pub answer_if : Bool → Option Reply → Option Reply
answer_if true reply = reply
answer_if false reply = None

-- the words after it, with the new one in its row
abbrev pub words_after : List Stored → Option Request → List Stored
words_after words None = words
words_after words (Some r) = with_word words r.place.row (word_after r.op (word_at words r.place.row))

-- the turn goes to the network that wasn't served
abbrev pub turn_from : Net → Option Net → Net
turn_from turn None = turn
turn_from turn (Some net) = other_net net

-- the queues of a network one cycle later: the request served leaves and one may come; the head of the replies leaves where it does,
-- then the answer goes last
abbrev pub requests_after : ModuleTraffic → ModuleState → Option Net → Net → ArrayVec Request
requests_after t s served net = queue_after (is_net net served) (message_at t.requests (net_number net)) None (queue_at s.requests (net_number net))

abbrev pub replies_from : ModuleTraffic → ModuleState → Option Net → Option Reply → Net → ArrayVec Reply
replies_from t s served answer net =
    queue_after (mark_at t.replies_leave (net_number net)) (answer_if (is_net net served) answer) None (queue_at s.replies (net_number net))

-- the same, with the answer to the request served
abbrev pub replies_after : ModuleTraffic → ModuleState → Option Net → Net → ArrayVec Reply
replies_after t s served net = replies_from t s served (answer_to s.words (served_on s served)) net

-- the state one cycle later, where it serves that network
abbrev pub module_serving : ModuleTraffic → ModuleState → Option Net → ModuleState
module_serving t s served = record {
  words = words_after s.words (served_on s served);
  requests = requests_after t s served Low ∷ requests_after t s served Comb ∷ [];
  replies = replies_after t s served Low ∷ replies_after t s served Comb ∷ [];
  turn = turn_from s.turn served;
  served = is_some served;
}

-- the state one cycle later, at this depth of its queues
abbrev pub module_after : ℕ → ModuleTraffic → ModuleState → ModuleState
module_after depth t s = module_serving t s (served_net s depth)
