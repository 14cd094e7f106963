-- A combining switch: where it is ready, what it shows, and its step (Gottlieb and others 1983).
use Rattle.std.specs.Prelude.{ℕ, suc, ◌+◌, ◌==◌, ◌&&◌, ◌||◌, nat_lt, nat_le, min, Bool, true, false, not, if◌then◌else◌, List, [], ◌∷◌, length, Option, None, Some, is_some, unwrap_or, slice_index, slice_index_or, slice_set, remove, position}
use Rattle.std.specs.List.{list_any}
use Rattle.arrayvec.specs.ArrayVec.{ArrayVec}
use Rattle.page_map.specs.declared.place.Place.{Place}
use Rattle.word_ops.specs.declared.kind.Kind.TheVariants.{Load}
use Rattle.word_ops.specs.Words.{word_after, then_op}
use Rattle.omega_net.specs.declared.message.Request.{Request}
use Rattle.omega_net.specs.declared.message.Reply.{Reply}
use Rattle.omega_net.specs.declared.message.Traffic.{Traffic}
use Rattle.omega_net.specs.Wires.{bit}
use Rattle.omega_net.specs.Queues.{free, has_room, head, without_head, joined, turn_after}
use Rattle.omega_net.specs.Ports.{empty, queue_at, message_at, mark_at, joined_at, request_to, same_tag, same_place}
use Rattle.comb_switch.specs.declared.waiting.Waiting.{Waiting}
use Rattle.comb_switch.specs.declared.state.CombState.{CombState}
use Rattle.comb_switch.specs.declared.settings.CombSettings.{CombSettings}

-- a switch in which nothing waits
abbrev pub comb_start : CombState
comb_start = record { fwd = empty ∷ empty ∷ []; turn = 0 ∷ 0 ∷ []; rev = empty ∷ empty ∷ []; rturn = 0; wait = empty; combined = 0 }

-- ready for input i into output queue o
abbrev pub comb_takes_request : CombState → ℕ → ℕ → ℕ → Bool
comb_takes_request s depth i o = has_room depth (queue_at s.fwd o) (slice_index s.turn o) i

-- ready for a reply from a side: by the fuller of the two reverse queues, since a reply may become two
abbrev pub reply_room : CombState → ℕ → ℕ
reply_room s depth = min (free depth (queue_at s.rev 0)) (free depth (queue_at s.rev 1))

abbrev pub comb_takes_reply : CombState → ℕ → ℕ → Bool
comb_takes_reply s depth side = nat_le 4 (reply_room s depth) || (nat_le 2 (reply_room s depth) && (s.rturn == side))

-- the heads that it shows
abbrev pub comb_request : CombState → ℕ → Option Request
comb_request s o = head (queue_at s.fwd o)

abbrev pub comb_reply : CombState → ℕ → Option Reply
comb_reply s i = head (queue_at s.rev i)

-- the index of the youngest request for a place
abbrev pub later_or : Option ℕ → Bool → Option ℕ
later_or (Some i) here = Some (suc i)
later_or None true = Some 0
later_or None false = None

abbrev pub youngest_for : Place → List Request → Option ℕ
youngest_for place [] = None
youngest_for place (r ∷ rs) = later_or (youngest_for place rs) (same_place r.place place)

-- whether a request combines into that one: the stage combines, the kinds are equal, nothing waits for that one's tag
-- yet, and the wait buffer has room
abbrev pub combines : CombSettings → ArrayVec Waiting → Request → Request → Bool
combines settings wait queued r =
    settings.combine && is_some (then_op queued.op r.op) && not (list_any (λ w. same_tag w.first queued.tag) wait.items)
    && nat_lt (length wait.items) settings.wait

-- that one with the operation of both, and what waits for its reply then
abbrev pub both : Request → Request → Request
both queued r = record queued { op = unwrap_or (then_op queued.op r.op) queued.op }

abbrev pub waiting_for : Request → Request → Waiting
waiting_for queued r = record { first = queued.tag; op = queued.op; second = r.tag }

-- a request goes last into its output queue
abbrev pub last_in : Request → ℕ → CombState → CombState
last_in r o a = record a { fwd = joined_at a.fwd o r }

-- or it combines into the one at that index
abbrev pub combined_in : Request → ℕ → ℕ → Request → CombState → CombState
combined_in r o i queued a = record a {
  fwd = slice_set a.fwd o (record { items = slice_set (queue_at a.fwd o).items i (both queued r) });
  wait = joined a.wait (Some (waiting_for queued r));
  combined = a.combined + 1;
}

-- a request meets the youngest one for its place, if there is one, in its output queue
abbrev pub meets : CombSettings → Request → ℕ → Option ℕ → CombState → CombState
meets settings r o None a = last_in r o a
meets settings r o (Some i) a =
    if combines settings a.wait (slice_index_or (queue_at a.fwd o).items i r) r then combined_in r o i (slice_index_or (queue_at a.fwd o).items i r) a
    else last_in r o a

-- a request arrives in the queue of its module
abbrev pub arrives : CombSettings → Option Request → CombState → CombState
arrives settings None a = a
arrives settings (Some r) a =
    meets settings r (bit settings.bit r.place.«module») (youngest_for r.place (queue_at a.fwd (bit settings.bit r.place.«module»)).items) a

-- a reply goes into the queue of its processor
abbrev pub sent_back : CombSettings → Reply → CombState → CombState
sent_back settings y a = record a { rev = joined_at a.rev (bit settings.bit y.tag.proc) y }

-- the entry at that index of a wait buffer
abbrev pub entry_at : ArrayVec Waiting → Reply → ℕ → Waiting
entry_at wait y i = slice_index_or wait.items i (record { first = y.tag; op = record { kind = Load; operand = 0 }; second = y.tag })

-- the replies to an entry's two requests: the word itself, and what the first operation leaves of it
abbrev pub first_answer : Waiting → Reply → Reply
first_answer w y = record { tag = w.first; word = y.word }

abbrev pub second_answer : Waiting → Reply → Reply
second_answer w y = record { tag = w.second; word = word_after w.op y.word }

-- a reply takes out an entry and becomes two, or goes back as it is
abbrev pub splits : CombSettings → Reply → Option ℕ → CombState → CombState
splits settings y None a = sent_back settings y a
splits settings y (Some i) a =
    sent_back settings (second_answer (entry_at a.wait y i) y)
    (sent_back settings (first_answer (entry_at a.wait y i) y) (record a { wait = record { items = remove a.wait.items i } }))

-- a reply meets the first entry that waits for its tag, if there is one
abbrev pub returns_to : CombSettings → Option Reply → CombState → CombState
returns_to settings None a = a
returns_to settings (Some y) a = splits settings y (position (λ w. same_tag w.first y.tag) a.wait.items) a

-- the turn of an output: a request that combines counts
abbrev pub comb_turn_after : CombSettings → Traffic → CombState → ℕ → ℕ
comb_turn_after settings t s o =
    turn_after (slice_index s.turn o) (is_some (request_to settings.bit o (message_at t.requests 0))) (is_some (request_to settings.bit o (message_at t.requests 1)))

-- heads have left, and turns have gone on
abbrev pub departed : CombSettings → Traffic → CombState → CombState
departed settings t s = record {
  fwd = without_head (mark_at t.requests_leave 0) (queue_at s.fwd 0) ∷ without_head (mark_at t.requests_leave 1) (queue_at s.fwd 1) ∷ [];
  turn = comb_turn_after settings t s 0 ∷ comb_turn_after settings t s 1 ∷ [];
  rev = without_head (mark_at t.replies_leave 0) (queue_at s.rev 0) ∷ without_head (mark_at t.replies_leave 1) (queue_at s.rev 1) ∷ [];
  rturn = turn_after s.rturn (is_some (message_at t.replies 0)) (is_some (message_at t.replies 1));
  wait = s.wait;
  combined = 0;
}

-- then requests arrive; then replies return
abbrev pub requests_in : CombSettings → Traffic → CombState → CombState
requests_in settings t s = arrives settings (message_at t.requests 1) (arrives settings (message_at t.requests 0) s)

abbrev pub replies_in : CombSettings → Traffic → CombState → CombState
replies_in settings t s = returns_to settings (message_at t.replies 1) (returns_to settings (message_at t.replies 0) s)

-- the step
abbrev pub comb_after : CombSettings → Traffic → CombState → CombState
comb_after settings t s = replies_in settings t (requests_in settings t (departed settings t s))
