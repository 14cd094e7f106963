-- What leaves on the networks in a cycle, and the turns one cycle later, as sets of labels.
use Rattle.std.specs.Prelude.{◌≡◌, ℕ, suc, ◌-◌, ◌<◌, true, is_some, IsSome, List, slice_index_or}
use Rattle.omega_net.specs.declared.component.Net.{Net}
use Rattle.omega_net.specs.declared.component.Net.TheVariants.{Low as LowNet, Comb as CombNet}
use Rattle.omega_net.specs.Numbers.{lines, half}
use Rattle.omega_net.specs.Wires.{bit, wire_into, wire_out}
use Rattle.omega_net.specs.Queues.{head, turn_after}
use Rattle.omega_net.specs.Ports.{request_to, reply_to}
use Rattle.project_book.specs.Project.{Project}
use Rattle.machine_cells.specs.Moves.{moves, moved_request, moved_reply}
use Rattle.flat_row.specs.Labels.{label, switch_label}
use Rattle.flat_row.specs.Masks.{has}
use Rattle.flat_row.specs.Shows.{on_line}
use Rattle.flat_row.specs.Row.{Arrays, queue_of, port_label, turn_of, states_of}
use Rattle.flat_row.specs.Rows.{if_leaves, network}

-- the requests that move over the wires before a stage, and the replies behind it, are the heads at the labels of a set
abbrev pub AreForth : Project → Arrays → Net → ℕ → ℕ → Type 0
AreForth P R net stage leave = (l : ℕ) → l < lines P.k → moved_request (moves P (states_of R)) (on_line net stage l)
    ≡ if_leaves (has leave (label P.k (on_line net stage l))) (queue_of (network R net).requests stage (label P.k (on_line net stage l)))

abbrev pub AreBack : Project → Arrays → Net → ℕ → ℕ → Type 0
AreBack P R net stage leave = (l : ℕ) → l < lines P.k → moved_reply (moves P (states_of R)) (on_line net stage l)
    ≡ if_leaves (has leave (label P.k (on_line net stage l))) (queue_of (network R net).replies stage (label P.k (on_line net stage l)))

-- where a label is in a set, a request waits at a level, or a reply
abbrev pub WaitForth : Arrays → Net → ℕ → ℕ → Type 0
WaitForth R net l set = (x : ℕ) → x < 64 → has set x ≡ true → IsSome (head (queue_of (network R net).requests l x))

abbrev pub WaitBack : Arrays → Net → ℕ → ℕ → Type 0
WaitBack R net l set = (x : ℕ) → x < 64 → has set x ≡ true → IsSome (head (queue_of (network R net).replies l x))

-- the turns of a stage's queues of requests one cycle later
abbrev pub AreTurns : Project → Arrays → Net → ℕ → ℕ → Type 0
AreTurns P R net stage next = (j o : ℕ) → j < half P.k → o < 2 → bit (port_label P.k stage j o) next
    ≡ turn_after (turn_of (network R net).turns stage (port_label P.k stage j o))
    (is_some (request_to (P.k - 1 - stage) o (moved_request (moves P (states_of R)) (wire_into P.k net stage j 0))))
    (is_some (request_to (P.k - 1 - stage) o (moved_request (moves P (states_of R)) (wire_into P.k net stage j 1))))

-- and of its queues of replies; a combining switch has one, at the label of port 0
abbrev pub AreBackTurns : Project → Arrays → Net → ℕ → ℕ → Type 0
AreBackTurns P R LowNet stage next = (j i : ℕ) → j < half P.k → i < 2 → bit (port_label P.k stage j i) next
    ≡ turn_after (turn_of R.low.back_turns stage (port_label P.k stage j i))
    (is_some (reply_to (P.k - 1 - stage) i (moved_reply (moves P (states_of R)) (wire_out LowNet stage j 0))))
    (is_some (reply_to (P.k - 1 - stage) i (moved_reply (moves P (states_of R)) (wire_out LowNet stage j 1))))
AreBackTurns P R CombNet stage next = (j : ℕ) → j < half P.k → bit (switch_label P.k stage j) next
    ≡ turn_after (turn_of R.comb.back_turns stage (switch_label P.k stage j))
    (is_some (moved_reply (moves P (states_of R)) (wire_out CombNet stage j 0)))
    (is_some (moved_reply (moves P (states_of R)) (wire_out CombNet stage j 1)))

-- the same of a stage, by what is decided there
pub record StageForth (P : Project) (R : Arrays) (net : Net) (stage leave next : ℕ) : Type 0 where
  pub moved : AreForth P R net stage leave
  pub waits : WaitForth R net stage leave
  pub turns : AreTurns P R net stage next

pub record StageBack (P : Project) (R : Arrays) (net : Net) (stage leave next : ℕ) : Type 0 where
  pub moved : AreBack P R net (suc stage) leave
  pub waits : WaitBack R net (suc stage) leave
  pub turns : AreBackTurns P R net stage next

-- and of the first stages, by lists of sets
abbrev pub AllForth : Project → Arrays → Net → ℕ → List ℕ → List ℕ → Type 0
AllForth P R net count leave next = (s : ℕ) → s < count → StageForth P R net s (slice_index_or leave s 0) (slice_index_or next s 0)

abbrev pub AllBack : Project → Arrays → Net → ℕ → List ℕ → List ℕ → Type 0
AllBack P R net count leave next = (s : ℕ) → s < count → StageBack P R net s (slice_index_or leave s 0) (slice_index_or next s 0)

-- what enters modules, and what processors receive
pub record Enters (P : Project) (R : Arrays) (net : Net) (set : ℕ) : Type 0 where
  pub moved : AreForth P R net P.k set
  pub waits : WaitForth R net P.k set

pub record Receives (P : Project) (R : Arrays) (net : Net) (set : ℕ) : Type 0 where
  pub moved : AreBack P R net 0 set
  pub waits : WaitBack R net 0 set
