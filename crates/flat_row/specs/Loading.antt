-- What changes where the state of a component is put into the row.
use Rattle.std.specs.Prelude.{◌≡◌, ◌≢◌, ℕ, suc, ◌/◌, ◌^◌, ◌<◌, ◌≤◌, ◌==◌, ◌&&◌, if◌then◌else◌, List, [], ◌∷◌, length, Some, slice_index}
use Rattle.arrayvec.specs.ArrayVec.{ArrayVec}
use Rattle.omega_net.specs.declared.component.Net.TheVariants.{Low as LowNet, Comb as CombNet}
use Rattle.omega_net.specs.declared.component.Component.{Component}
use Rattle.omega_net.specs.declared.component.Component.TheVariants.{Proc as ProcAt, Module as ModuleAt, Switch}
use Rattle.omega_net.specs.declared.message.Request.{Request}
use Rattle.omega_net.specs.declared.message.Reply.{Reply}
use Rattle.omega_net.specs.Numbers.{Exists}
use Rattle.machine_cells.specs.declared.state.MachineState.{MachineState}
use Rattle.machine_cells.specs.declared.state.MachineState.TheVariants.{Proc, Module, Low, Comb}
use Rattle.project_book.specs.Project.{Project}
use Rattle.state_words.specs.Messages.{request_from, reply_from}
use Rattle.state_words.specs.Reading.{count_in, queues_from, after_requests}
use Rattle.flat_row.specs.Queues.{Queues}
use Rattle.flat_row.specs.Row.{Network, Arrays, IsRowOf, level_at, queue_of, turn_of, state_of}
use Rattle.flat_row.specs.Moving.{SameShape}

-- the queues of levels, where that of a level at a label is another one
abbrev pub with_at : {T : Type 0} → List (Queues T) → ℕ → ℕ → ArrayVec T → ℕ → ℕ → ArrayVec T
with_at levels at x q l z = if (l == at) && (z == x) then q else queue_of levels l z

-- a network in which one queue of requests is another one, and one in which one of replies is
pub record RequestsPut (at x : ℕ) (q : ArrayVec Request) (old new : Network) : Type 0 where
  pub shape : SameShape old.requests new.requests
  pub queues : (l z : ℕ) → queue_of new.requests l z ≡ with_at old.requests at x q l z
  pub replies : new.replies ≡ old.replies
  pub turns : new.turns ≡ old.turns
  pub back_turns : new.back_turns ≡ old.back_turns

pub record RepliesPut (at x : ℕ) (q : ArrayVec Reply) (old new : Network) : Type 0 where
  pub shape : SameShape old.replies new.replies
  pub queues : (l z : ℕ) → queue_of new.replies l z ≡ with_at old.replies at x q l z
  pub requests : new.requests ≡ old.requests
  pub turns : new.turns ≡ old.turns
  pub back_turns : new.back_turns ≡ old.back_turns

-- a label of a level that isn't one of these two
abbrev pub Apart : ℕ → ℕ → ℕ → ℕ → ℕ → Type 0
Apart at x y l z = l ≡ at → (z ≡ x → ⊥) × (z ≡ y → ⊥)

-- turns by stage, where that of a stage at a label is another one: it is this one, where this is 0 or 1
pub record TurnPut (at x a : ℕ) (old new : List ℕ) : Type 0 where
  pub many : length new ≡ length old
  pub here : a < 2 → turn_of new at x ≡ a
  pub others : (s z : ℕ) → z < 64 → (s ≡ at → z ≡ x → ⊥) → turn_of new s z ≡ turn_of old s z

-- and at two labels
pub record TurnsPut (at x y a b : ℕ) (old new : List ℕ) : Type 0 where
  pub many : length new ≡ length old
  pub first : a < 2 → turn_of new at x ≡ a
  pub second : b < 2 → turn_of new at y ≡ b
  pub others : (s z : ℕ) → z < 64 → Apart at x y s z → turn_of new s z ≡ turn_of old s z

-- the queues at labels x and y, the ports of a switch, are there: those of requests behind stage s, those of replies before it
pub record HasPorts (s x y : ℕ) (n : Network) : Type 0 where
  pub stage : s < 6
  pub requests : suc s < length n.requests
  pub replies : s < length n.replies
  pub first : (x < length (level_at n.requests (suc s)).queues) × (x < length (level_at n.replies s).queues)
  pub second : (y < length (level_at n.requests (suc s)).queues) × (y < length (level_at n.replies s).queues)
  pub small : (x < 64) × (y < 64)
  pub apart : x ≢ y

-- a network in which the queues at the ports of a switch are those that a head and the words after it say
pub record PortsPut (s x y h : ℕ) (ws : List ℕ) (old new : Network) : Type 0 where
  pub requests_shape : SameShape old.requests new.requests
  pub replies_shape : SameShape old.replies new.replies
  pub fwd : queue_of new.requests (suc s) x ∷ queue_of new.requests (suc s) y ∷ [] ≡ queues_from request_from (count_in (h / 2 ^ 2)) (count_in (h / 2 ^ 7)) ws
  pub rev : queue_of new.replies s x ∷ queue_of new.replies s y ∷ [] ≡ queues_from reply_from (count_in (h / 2 ^ 12)) (count_in (h / 2 ^ 17)) (after_requests h ws)
  pub requests : (l z : ℕ) → Apart (suc s) x y l z → queue_of new.requests l z ≡ queue_of old.requests l z
  pub replies : (l z : ℕ) → Apart s x y l z → queue_of new.replies l z ≡ queue_of old.replies l z

-- two turns that are 0 or 1
pub record AreBits (turns : List ℕ) : Type 0 where
  pub first : slice_index turns 0 < 2
  pub second : slice_index turns 1 < 2

-- a state that a row can hold of a component: of its kind, with turns that are 0 or 1, and at most two requests combined
abbrev pub CanHold : Component → MachineState → Type 0
CanHold (ProcAt p) (Proc s) = Unit {0}
CanHold (ModuleAt m) (Module s) = Unit {0}
CanHold (Switch LowNet s j) (Low u) = AreBits u.turn × AreBits u.rturn
CanHold (Switch CombNet s j) (Comb u) = AreBits u.turn × (u.rturn < 2) × (u.combined ≤ 2)
CanHold c s = ⊥

-- a row in which at most the state of one component is another one
pub record OnlyState (c : Component) (old new : Arrays) : Type 0 where
  pub size : new.k ≡ old.k
  pub others : (d : Component) → Exists old.k d → (d ≡ c → ⊥) → state_of new (Some d) ≡ state_of old (Some d)
  pub of : (P : Project) → IsRowOf P old → IsRowOf P new
