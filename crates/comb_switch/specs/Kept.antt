-- No message that moves is lost: what a combining switch is ready for finds a place in it.
use Rattle.std.specs.Prelude.{◌≡◌, ℕ, ◌==◌, ◌<◌, ◌≤◌, true, List, [], ◌∷◌, ◌++◌, filter, Option, None, Some, is_some, IfSome, position, ◌⊎◌}
use Rattle.arrayvec.specs.ArrayVec.{ArrayVec}
use Rattle.omega_net.specs.declared.message.Request.{Request}
use Rattle.omega_net.specs.declared.message.Reply.{Reply}
use Rattle.omega_net.specs.declared.message.Traffic.{Traffic}
use Rattle.omega_net.specs.Wires.{bit}
use Rattle.omega_net.specs.Limits.{queue_places}
use Rattle.omega_net.specs.Queues.{without_head}
use Rattle.omega_net.specs.Ports.{queue_at, message_at, mark_at, same_tag}
use Rattle.comb_switch.specs.declared.waiting.Waiting.{Waiting}
use Rattle.comb_switch.specs.declared.state.CombState.{CombState}
use Rattle.comb_switch.specs.declared.settings.CombSettings.{CombSettings}
use Rattle.comb_switch.specs.CombSwitch.{comb_takes_request, comb_takes_reply, waiting_for, arrives, departed, requests_in, returns_to, comb_after, entry_at, first_answer, second_answer}

-- what a reply becomes, with this wait buffer: itself, or the replies to both requests that were combined
abbrev pub answers_at : ArrayVec Waiting → Reply → Option ℕ → List Reply
answers_at wait y None = y ∷ []
answers_at wait y (Some i) = first_answer (entry_at wait y i) y ∷ second_answer (entry_at wait y i) y ∷ []

abbrev pub answers : ArrayVec Waiting → Option Reply → List Reply
answers wait None = []
answers wait (Some y) = answers_at wait y (position (λ w. same_tag w.first y.tag) wait.items)

-- those for the processors behind input i
abbrev pub to_input : ℕ → ℕ → List Reply → List Reply
to_input b i ys = filter (λ y. bit b y.tag.proc == i) ys

-- all that comes back in a step: the second reply meets the wait buffer that the first left
abbrev pub back_from : CombSettings → Traffic → CombState → List Reply
back_from settings t a =
    answers a.wait (message_at t.replies 0) ++ answers (returns_to settings (message_at t.replies 0) a).wait (message_at t.replies 1)

-- at a depth no greater than a queue has places, where each reply comes only from a side that may send, every reply stands in the queue of its
-- processor one cycle later
abbrev pub RepliesAreKept : Type 0
RepliesAreKept =
    (settings : CombSettings) (t : Traffic) (s : CombState) (depth : ℕ) → depth ≤ queue_places
    → (is_some (message_at t.replies 0) ≡ true → comb_takes_reply s depth 0 ≡ true)
    → (is_some (message_at t.replies 1) ≡ true → comb_takes_reply s depth 1 ≡ true)
    → (i : ℕ) → i < 2
    → (queue_at (comb_after settings t s).rev i).items
    ≡ (without_head (mark_at t.replies_leave i) (queue_at s.rev i)).items ++ to_input settings.bit i (back_from settings t (requests_in settings t (departed settings t s)))

-- a request has arrived: it stands last in its output queue, or last in the wait buffer behind the one that it was
-- combined into
abbrev pub HasArrived : ℕ → Request → CombState → CombState → Type 0
HasArrived o r old new =
    ((queue_at new.fwd o).items ≡ (queue_at old.fwd o).items ++ r ∷ [])
    ⊎ ((queued : Request) × (new.wait.items ≡ old.wait.items ++ waiting_for queued r ∷ []))

-- whether a request may come from that input, if one comes
abbrev pub MayCome : CombSettings → CombState → ℕ → ℕ → Option Request → Type 0
MayCome settings s depth i m = IfSome m (λ r. comb_takes_request s depth i (bit settings.bit r.place.«module») ≡ true)

-- at depths no greater than a queue has places, where each request comes only from an input that may send, both arrive
abbrev pub RequestsAreKept : Type 0
RequestsAreKept =
    (settings : CombSettings) (t : Traffic) (s : CombState) (depth : ℕ) → depth ≤ queue_places → settings.wait ≤ queue_places
    → MayCome settings s depth 0 (message_at t.requests 0) → MayCome settings s depth 1 (message_at t.requests 1)
    → let left = departed settings t s in
    let between = arrives settings (message_at t.requests 0) left in
    IfSome (message_at t.requests 0) (λ r. HasArrived (bit settings.bit r.place.«module») r left between)
    × IfSome (message_at t.requests 1) (λ r. HasArrived (bit settings.bit r.place.«module») r between (requests_in settings t left))
