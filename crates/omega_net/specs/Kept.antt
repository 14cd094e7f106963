-- No message that moves is lost: what a queue has room for finds a place in it.
use Rattle.std.specs.Prelude.{◌≡◌, ℕ, ◌≤◌, Bool, true, ◌++◌, Option, is_some}
use Rattle.std.specs.Option.{option_to_list}
use Rattle.arrayvec.specs.ArrayVec.{ArrayVec}
use Rattle.omega_net.specs.declared.message.Request.{Request}
use Rattle.omega_net.specs.declared.message.Reply.{Reply}
use Rattle.omega_net.specs.Limits.{queue_places}
use Rattle.omega_net.specs.Queues.{has_room, without_head, queue_after}

-- a queue that is no deeper than it has places, where each message comes only if its sender may send
abbrev pub KeepsAll : (T : Type 0) → Type 0
KeepsAll T =
    (depth turn : ℕ) (q : ArrayVec T) (leaves : Bool) (a b : Option T) → depth ≤ queue_places
    → (is_some a ≡ true → has_room depth q turn 0 ≡ true) → (is_some b ≡ true → has_room depth q turn 1 ≡ true)
    → (queue_after leaves a b q).items ≡ (without_head leaves q).items ++ option_to_list a ++ option_to_list b

-- requests and replies alike
abbrev pub NothingIsLost : Type 0
NothingIsLost = KeepsAll Request × KeepsAll Reply
