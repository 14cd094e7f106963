-- What levels hold when heads have moved from one to another.
use Rattle.std.specs.Prelude.{◌≡◌, ◌≢◌, ℕ, zero, suc, ◌-◌, ◌<◌, ◌≤◌, ◌==◌, ◌&&◌, nat_lt, Bool, true, if◌then◌else◌, List, length, Option, None, Some, IsSome, slice_index_or}
use Rattle.arrayvec.specs.ArrayVec.{ArrayVec}
use Rattle.omega_net.specs.Wires.{bit}
use Rattle.omega_net.specs.Queues.{head, without_head, joined}
use Rattle.flat_row.specs.Labels.{port}
use Rattle.flat_row.specs.Masks.{has}
use Rattle.flat_row.specs.Queues.{Queues}
use Rattle.flat_row.specs.Row.{level_at, queue_of}
use Rattle.flat_row.specs.Rows.{if_leaves}

-- the same levels, with as many queues and the same rules
pub record SameShape {T : Type 0} (old new : List (Queues T)) : Type 0 where
  pub many : length new ≡ length old
  pub queues : (l : ℕ) → length (level_at new l).queues ≡ length (level_at old l).queues
  pub rules : (l : ℕ) → (level_at new l).rule ≡ (level_at old l).rule

-- messages can move from a level to another one: both are there
pub record CanMove {T : Type 0} (from to : ℕ) (levels : List (Queues T)) : Type 0 where
  pub source : from < length levels
  pub target : to < length levels
  pub apart : from ≢ to

-- a message waits at label x of a level
pub record HasMessage {T : Type 0} (l x : ℕ) (levels : List (Queues T)) : Type 0 where
  pub queue : x < length (level_at levels l).queues
  pub some : IsSome (head (queue_of levels l x))

-- the label of the queue to which a message goes from label x, at a stage that decides by bit b
abbrev pub label_to : {T : Type 0} → (T → ℕ) → ℕ → ℕ → Option T → ℕ
label_to route b x None = x
label_to route b x (Some m) = port b (bit b (route m)) x

-- the queues where the head at label x of a level has moved to another level
abbrev pub passed : {T : Type 0} → (T → ℕ) → ℕ → ℕ → ℕ → ℕ → List (Queues T) → ℕ → ℕ → ArrayVec T
passed route b from to x levels l z =
    if (l == from) && (z == x) then without_head true (queue_of levels from x)
    else (if (l == to) && (z == label_to route b x (head (queue_of levels from x))) then joined (queue_of levels to z) (head (queue_of levels from x))
    else queue_of levels l z)

-- a message that goes to port o, at a stage that decides by bit b
abbrev pub sent_to : {T : Type 0} → (T → ℕ) → ℕ → ℕ → Option T → Option T
sent_to route b o None = None
sent_to route b o (Some m) = if bit b (route m) == o then Some m else None

-- the message that comes from port i to the queue at label z, where these heads leave
abbrev pub arrival : {T : Type 0} → (T → ℕ) → ℕ → (ℕ → Bool) → List (Queues T) → ℕ → ℕ → ℕ → Option T
arrival route b leaves levels from i z = sent_to route b (bit b z) (if_leaves (leaves (port b i z)) (queue_of levels from (port b i z)))

-- the queues where these heads of a level have moved to another level, at each queue that from port 0 first
abbrev pub moved : {T : Type 0} → (T → ℕ) → ℕ → (ℕ → Bool) → ℕ → ℕ → List (Queues T) → ℕ → ℕ → ArrayVec T
moved route b leaves from to levels l z =
    if l == from then without_head (leaves z) (queue_of levels from z)
    else (if l == to then joined (joined (queue_of levels to z) (arrival route b leaves levels from 0 z)) (arrival route b leaves levels from 1 z)
    else queue_of levels l z)

-- the queues where the head at a label has moved to the same label of another level
abbrev pub passed_straight : {T : Type 0} → ℕ → ℕ → ℕ → List (Queues T) → ℕ → ℕ → ArrayVec T
passed_straight from to x levels l z =
    if (l == from) && (z == x) then without_head true (queue_of levels from x)
    else (if (l == to) && (z == x) then joined (queue_of levels to x) (head (queue_of levels from x))
    else queue_of levels l z)

-- the queues where the heads of a level have moved to the same labels of another level
abbrev pub moved_straight : {T : Type 0} → (ℕ → Bool) → ℕ → ℕ → List (Queues T) → ℕ → ℕ → ArrayVec T
moved_straight leaves from to levels l z =
    if l == from then without_head (leaves z) (queue_of levels from z)
    else (if l == to then joined (queue_of levels to z) (if_leaves (leaves z) (queue_of levels from z))
    else queue_of levels l z)

-- the heads that leave a level of requests: for the stage behind it, or for the modules
abbrev pub leaves_forth : ℕ → List ℕ → ℕ → ℕ → ℕ → Bool
leaves_forth k forth enter l z = if l == k then has enter z else has (slice_index_or forth l 0) z

-- a level of requests where all of the low network that leave have moved, by the levels before
abbrev pub forth_after : {T : Type 0} → (T → ℕ) → ℕ → List ℕ → ℕ → List (Queues T) → ℕ → ℕ → ArrayVec T
forth_after route k forth enter levels zero z = without_head (leaves_forth k forth enter 0 z) (queue_of levels 0 z)
forth_after route k forth enter levels (suc l) z =
    if l == k then joined (queue_of levels (suc k) z) (if_leaves (has enter z) (queue_of levels k z))
    else joined (joined (without_head (leaves_forth k forth enter (suc l) z) (queue_of levels (suc l) z))
    (arrival route (k - 1 - l) (has (slice_index_or forth l 0)) levels l 0 z)) (arrival route (k - 1 - l) (has (slice_index_or forth l 0)) levels l 1 z)

-- where a label is in the set that leaves a level, a message waits there
abbrev pub AllWait : {T : Type 0} → ℕ → List ℕ → ℕ → List (Queues T) → Type 0
AllWait k forth enter levels = (l x : ℕ) → l ≤ k → x < 64 → leaves_forth k forth enter l x ≡ true → IsSome (head (queue_of levels l x))

-- the same on the way back, where sets are by the stage that messages come from behind
abbrev pub AllWaitBack : {T : Type 0} → ℕ → List ℕ → List (Queues T) → Type 0
AllWaitBack k back levels = (s x : ℕ) → s < k → x < 64 → has (slice_index_or back s 0) x ≡ true → IsSome (head (queue_of levels (suc s) x))

-- a queue of a level of replies where the head has left, if its label is in the set behind the stage before it; what leaves the first
-- level leaves by itself
abbrev pub left_back : {T : Type 0} → List ℕ → List (Queues T) → ℕ → ℕ → ArrayVec T
left_back back levels zero z = queue_of levels 0 z
left_back back levels (suc s) z = without_head (has (slice_index_or back s 0) z) (queue_of levels (suc s) z)

-- the heads that leave a level of replies: for the processors, or for the stage before it
abbrev pub leaves_back : ℕ → List ℕ → ℕ → ℕ → Bool
leaves_back receive back zero z = has receive z
leaves_back receive back (suc s) z = has (slice_index_or back s 0) z

-- a level of replies where all of the low network that leave behind stages have moved, by the levels before
abbrev pub back_after : {T : Type 0} → (T → ℕ) → ℕ → List ℕ → List (Queues T) → ℕ → ℕ → ArrayVec T
back_after route k back levels l z =
    if nat_lt l k then joined (joined (left_back back levels l z)
    (arrival route (k - 1 - l) (has (slice_index_or back l 0)) levels (suc l) 0 z)) (arrival route (k - 1 - l) (has (slice_index_or back l 0)) levels (suc l) 1 z)
    else left_back back levels l z
