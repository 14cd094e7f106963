-- How requests combine and replies split at the combining switches of a stage, by the labels of their ports.
use Rattle.std.specs.Prelude.{◌≡◌, ℕ, ◌<◌, ◌≤◌, ◌==◌, if◌then◌else◌, Bool, true, List, [], ◌∷◌, length, Option, slice_set}
use Rattle.arrayvec.specs.ArrayVec.{ArrayVec}
use Rattle.omega_net.specs.declared.message.Request.{Request}
use Rattle.omega_net.specs.declared.message.Reply.{Reply}
use Rattle.omega_net.specs.Wires.{bit}
use Rattle.omega_net.specs.Queues.{head, without_head}
use Rattle.omega_net.specs.Ports.{empty, queue_at}
use Rattle.comb_switch.specs.declared.waiting.Waiting.{Waiting}
use Rattle.comb_switch.specs.declared.state.CombState.{CombState}
use Rattle.flat_row.specs.Labels.{port}
use Rattle.flat_row.specs.Masks.{has}
use Rattle.flat_row.specs.Queues.{Queues}
use Rattle.flat_row.specs.Row.{Buffers, level_at, queue_of, wait_of, combined_of}
use Rattle.flat_row.specs.Rows.{if_leaves}
use Rattle.flat_row.specs.Moving.{SameShape}

-- a combining switch of these queues, this wait buffer and this count, and nothing else
abbrev pub core : List (ArrayVec Request) → List (ArrayVec Reply) → ArrayVec Waiting → ℕ → CombState
core fwd rev wait combined = record { fwd = fwd; rev = rev; wait = wait; turn = 0 ∷ 0 ∷ []; rturn = 0; combined = combined }

-- the queues at the ports of the switch of label x, at a stage that decides by bit b
abbrev pub at_ports : {T : Type 0} → ℕ → (ℕ → ArrayVec T) → ℕ → List (ArrayVec T)
at_ports b queues x = queues (port b 0 x) ∷ queues (port b 1 x) ∷ []

-- what of that switch requests come to, and replies
abbrev pub meeting : ℕ → (ℕ → ArrayVec Request) → Buffers → ℕ → CombState
meeting b queues w x = core (at_ports b queues x) (empty ∷ empty ∷ []) (wait_of w x) (combined_of w x)

abbrev pub splitting : ℕ → (ℕ → ArrayVec Reply) → Buffers → ℕ → CombState
splitting b queues w x = core (empty ∷ empty ∷ []) (at_ports b queues x) (wait_of w x) (combined_of w x)

-- buffers whose switches have combined nothing yet
abbrev pub cleared : Buffers → Buffers
cleared w = record w { once = 0; twice = 0 }

-- the same buffers, but for that of one switch
abbrev pub with_wait : Buffers → ℕ → ArrayVec Waiting → Buffers
with_wait w x new = record w { entries = slice_set w.entries x new }

-- label x is that of port 0 of a switch, at a stage that decides by bit b
pub record IsFirstPort (b x : ℕ) : Type 0 where
  pub by : b < 6
  pub there : x < 64
  pub first : bit b x ≡ 0

-- the queues at the ports of that switch are there, and its wait buffer
pub record HasPlaces {T : Type 0} (b x : ℕ) (level : Queues T) (waits : Buffers) : Type 0 where
  pub ports : (i : ℕ) → i < 2 → port b i x < length level.queues
  pub entries : x < length waits.entries

-- a request waits at index i of the queue at output o of that switch
pub record IsQueuedAt (b o x i : ℕ) (level : Queues Request) : Type 0 where
  pub output : o < 2
  pub index : i < length (queue_at level.queues (port b o x)).items

-- at most the queues at these ports are others, and the buffer and the count of that switch
pub record OnlyAt {T : Type 0} (b x : ℕ) (old new : ℕ → ArrayVec T) (waits next : Buffers) : Type 0 where
  pub queues : (z : ℕ) → z < 64 → (port b 0 z ≡ x → ⊥) → new z ≡ old z
  pub entries : length next.entries ≡ length waits.entries
  pub buffers : (z : ℕ) → (z ≡ x → ⊥) → wait_of next z ≡ wait_of waits z
  pub counts : (z : ℕ) → z < 64 → (z ≡ x → ⊥) → combined_of next z ≡ combined_of waits z

-- the same queues but for those, and the same rule
pub record SameLevel {T : Type 0} (old new : Queues T) : Type 0 where
  pub many : length new.queues ≡ length old.queues
  pub rule : new.rule ≡ old.rule

-- what changes where the head at label y has left a level for its switch at another one
pub record Met {T : Type 0} (view : (ℕ → ArrayVec T) → Buffers → ℕ → CombState) (effect : Option T → CombState → CombState) (b from to y : ℕ)
    (old new : List (Queues T)) (waits next : Buffers) : Type 0 where
  pub shape : SameShape old new
  pub source : (z : ℕ) → queue_of new from z ≡ (if z == y then without_head true (queue_of old from z) else queue_of old from z)
  pub here : view (queue_of new to) next (port b 0 y) ≡ effect (head (queue_of old from y)) (view (queue_of old to) waits (port b 0 y))
  pub only : OnlyAt b (port b 0 y) (queue_of old to) (queue_of new to) waits next
  pub rest : (l z : ℕ) → (l ≡ from → ⊥) → (l ≡ to → ⊥) → queue_of new l z ≡ queue_of old l z

-- what a switch is where the heads at both of its ports come, if they leave, that of port 0 first
abbrev pub both_come : {T : Type 0} → (Option T → CombState → CombState) → ℕ → (ℕ → Bool) → (ℕ → ArrayVec T) → ℕ → CombState → CombState
both_come effect b leaves queues x a =
    effect (if_leaves (leaves (port b 1 x)) (queues (port b 1 x))) (effect (if_leaves (leaves (port b 0 x)) (queues (port b 0 x))) a)

-- what changes where all heads of a set have left a level for the switches of a stage
pub record AllMet {T : Type 0} (view : (ℕ → ArrayVec T) → Buffers → ℕ → CombState) (effect : Option T → CombState → CombState) (b from to leave : ℕ)
    (old new : List (Queues T)) (waits next : Buffers) : Type 0 where
  pub shape : SameShape old new
  pub entries : length next.entries ≡ length waits.entries
  pub source : (z : ℕ) → z < 64 → queue_of new from z ≡ without_head (has leave z) (queue_of old from z)
  pub switches : (x : ℕ) → x < 64 → bit b x ≡ 0 → view (queue_of new to) next x ≡ both_come effect b (has leave) (queue_of old from) x (view (queue_of old to) waits x)
  pub rest : (l z : ℕ) → (l ≡ from → ⊥) → (l ≡ to → ⊥) → queue_of new l z ≡ queue_of old l z

-- messages can cross a stage that decides by bit b from a level to another one: the queues and the wait buffers of all its switches are there
pub record CanCross {T : Type 0} (b from to : ℕ) (levels : List (Queues T)) (waits : Buffers) : Type 0 where
  pub by : b < 6
  pub apart : from ≡ to → ⊥
  pub ports : (x i : ℕ) → x < length (level_at levels from).queues → i < 2 → port b i x < length (level_at levels to).queues
  pub entries : length (level_at levels from).queues ≤ length waits.entries
