-- What a combining switch has of the messages that came to it, and that it has each of them.
use Rattle.std.specs.Prelude.{◌≡◌, ℕ, ◌<◌, ◌≤◌, true, Some, is_some, ◌⊎◌}
use Rattle.std.specs.List.{Contains}
use Rattle.omega_net.specs.declared.message.Tag.{Tag}
use Rattle.omega_net.specs.declared.message.Request.{Request}
use Rattle.omega_net.specs.declared.message.Reply.{Reply}
use Rattle.omega_net.specs.declared.message.Traffic.{Traffic}
use Rattle.omega_net.specs.Limits.{queue_places}
use Rattle.omega_net.specs.Wires.{bit}
use Rattle.omega_net.specs.Ports.{queue_at, message_at}
use Rattle.comb_switch.specs.declared.waiting.Waiting.{Waiting}
use Rattle.comb_switch.specs.declared.state.CombState.{CombState}
use Rattle.comb_switch.specs.declared.settings.CombSettings.{CombSettings}
use Rattle.comb_switch.specs.CombSwitch.{comb_takes_reply, both, comb_after}
use Rattle.comb_switch.specs.Kept.{MayCome}

-- a reply stands in the queue of its processor, at a stage that decides by bit b
abbrev pub HasReply : ℕ → Reply → CombState → Type 0
HasReply b y s = Contains (queue_at s.rev (bit b y.tag.proc)).items y

-- a request that was combined into another waits for that one's reply, or the reply to it is on its way back
abbrev pub IsCombined : ℕ → Tag → CombState → Type 0
IsCombined b tag s =
    ((w : Waiting) × (w.second ≡ tag) × Contains s.wait.items w) ⊎ ((word : ℕ) × HasReply b (record { tag = tag; word = word }) s)

-- a request stands in the queue of its module, as it came or with the operation of one that was combined into it; or it was combined
abbrev pub HasRequest : ℕ → Request → CombState → Type 0
HasRequest b r s =
    let queue = queue_at s.fwd (bit b r.place.«module») in
    (Contains queue.items r ⊎ ((other : Request) × Contains queue.items (both r other))) ⊎ IsCombined b r.tag s

-- one cycle later a switch has each message that came, and each request that it had combined into another
pub record HasAll (settings : CombSettings) (t : Traffic) (s : CombState) : Type 0 where
  pub requests : (i : ℕ) (r : Request) → i < 2 → message_at t.requests i ≡ Some r → HasRequest settings.bit r (comb_after settings t s)
  pub replies : (side : ℕ) (y : Reply) → side < 2 → message_at t.replies side ≡ Some y → HasReply settings.bit y (comb_after settings t s)
  pub combined : (w : Waiting) → Contains s.wait.items w → IsCombined settings.bit w.second (comb_after settings t s)

-- at depths no greater than a queue has places, where each message comes only from a sender that may send
abbrev pub MessagesAreHeld : Type 0
MessagesAreHeld =
    (settings : CombSettings) (t : Traffic) (s : CombState) (forward reverse : ℕ)
    → forward ≤ queue_places → reverse ≤ queue_places → settings.wait ≤ queue_places
    → MayCome settings s forward 0 (message_at t.requests 0) → MayCome settings s forward 1 (message_at t.requests 1)
    → (is_some (message_at t.replies 0) ≡ true → comb_takes_reply s reverse 0 ≡ true)
    → (is_some (message_at t.replies 1) ≡ true → comb_takes_reply s reverse 1 ≡ true)
    → HasAll settings t s
