-- Queues: free places, room by turns, and what a queue holds after a step.
use Rattle.std.specs.Prelude.{ℕ, ◌-◌, ◌==◌, ◌&&◌, ◌||◌, nat_lt, nat_le, Bool, true, false, if◌then◌else◌, [], ◌∷◌, ◌++◌, length, drop, Option, None, Some, slice_get}
use Rattle.arrayvec.specs.ArrayVec.{ArrayVec}
use Rattle.omega_net.specs.Limits.{queue_places}

-- the free places: depth less length, and none where the queue is longer
abbrev pub free : {T : Type 0} → ℕ → ArrayVec T → ℕ
free depth q = depth - length q.items

-- whether the sender of that number may send: two places are free, or one at its turn
abbrev pub has_room : {T : Type 0} → ℕ → ArrayVec T → ℕ → ℕ → Bool
has_room depth q turn sender = nat_le 2 (free depth q) || ((free depth q == 1) && (turn == sender))

-- the head: the message that has waited longest
abbrev pub head : {T : Type 0} → ArrayVec T → Option T
head q = slice_get q.items 0

-- the queue after its head left, if it leaves
abbrev pub without_head : {T : Type 0} → Bool → ArrayVec T → ArrayVec T
without_head leaves q = if leaves then record { items = drop 1 q.items } else q

-- the queue with a message last, if one comes; a full one takes no other, and no sender that may send meets it
abbrev pub joined : {T : Type 0} → ArrayVec T → Option T → ArrayVec T
joined q None = q
joined q (Some m) = if nat_lt (length q.items) queue_places then record { items = q.items ++ m ∷ [] } else q

-- the queue one cycle later: the head leaves, then the messages from 0 and from 1 join
abbrev pub queue_after : {T : Type 0} → Bool → Option T → Option T → ArrayVec T → ArrayVec T
queue_after leaves from_0 from_1 q = joined (joined (without_head leaves q) from_0) from_1

-- the turn after a step: that of the sender which nothing came from, where exactly one message came
abbrev pub turn_after : ℕ → Bool → Bool → ℕ
turn_after turn true false = 1
turn_after turn false true = 0
turn_after turn _ _ = turn
