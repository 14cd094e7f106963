-- What stages and ends decide from the marks of a row's levels is what moves in the whole state that the row is.
use Rattle.std.specs.Prelude.{◌≡◌, ℕ, suc, ◌-◌, ◌<◌, ◌&&◌, Bool, if◌then◌else◌, Option, None, is_some, slice_index_or}
use Rattle.arrayvec.specs.ArrayVec.{ArrayVec}
use Rattle.omega_net.specs.declared.component.Net.{Net}
use Rattle.omega_net.specs.declared.component.Net.TheVariants.{Low as LowNet, Comb as CombNet}
use Rattle.omega_net.specs.declared.message.Request.{Request}
use Rattle.omega_net.specs.declared.message.Reply.{Reply}
use Rattle.omega_net.specs.Numbers.{lines, half}
use Rattle.omega_net.specs.Wires.{bit, wire_into, wire_out}
use Rattle.omega_net.specs.Queues.{head, turn_after}
use Rattle.omega_net.specs.Ports.{queue_at, request_to, reply_to}
use Rattle.mem_module.specs.MemModule.{served_net}
use Rattle.project_book.specs.Project.{Project, IsProject, depth_of}
use Rattle.project_book.specs.declared.edit.Depths.TheVariants.{ModuleQueue}
use Rattle.machine_cells.specs.Moves.{moves, moved_request, moved_reply}
use Rattle.flat_row.specs.declared.marks.Marks.{Marks}
use Rattle.flat_row.specs.Labels.{label, switch_label}
use Rattle.flat_row.specs.Masks.{has, IsSetOf}
use Rattle.flat_row.specs.Queues.{Queues, shown_at, shown_of}
use Rattle.flat_row.specs.Decisions.{leaves, comes, leaves_both, comes_both, served_at, TurnsAfter}
use Rattle.flat_row.specs.Shows.{on_line, heads_of, room_of}
use Rattle.flat_row.specs.Row.{Network, Arrays, IsRow, IsRowOf, level_at, queue_of, port_label, turn_of, module_of, states_of}

-- these are the marks of a level of requests, and of replies
abbrev pub MarksRequests : Queues Request → Marks → Type 0
MarksRequests q marks = (x : ℕ) → x < 64 → shown_at marks x ≡ shown_of (λ (r : Request). r.place.«module») q.rule (queue_at q.queues x).items

abbrev pub MarksReplies : Queues Reply → Marks → Type 0
MarksReplies q marks = (x : ℕ) → x < 64 → shown_at marks x ≡ shown_of (λ (y : Reply). y.tag.proc) q.rule (queue_at q.queues x).items

-- a network of a row
abbrev pub network : Arrays → Net → Network
network R LowNet = R.low
network R CombNet = R.comb

-- the head of a queue, where it leaves
abbrev pub if_leaves : {T : Type 0} → Bool → ArrayVec T → Option T
if_leaves leaves q = if leaves then head q else None

-- by the marks of a row's levels: what moves over a stage's wire, into a module or into a processor is the head of the queue at the
-- wire's label, where the label is in the set of those that leave; and a module serves what these sets say
pub record RowDecides (P : Project) (R : Arrays) : Type 0 where
  pub requests : (net : Net) (stage : ℕ) (before behind : Marks) (leave : ℕ) → stage < P.k
      → MarksRequests (level_at (network R net).requests stage) before → MarksRequests (level_at (network R net).requests (suc stage)) behind
      → IsSetOf (leaves (P.k - 1 - stage) (heads_of before) (room_of behind) (slice_index_or (network R net).turns stage 0)) leave
      → (l : ℕ) → l < lines P.k → moved_request (moves P (states_of R)) (on_line net stage l)
      ≡ if_leaves (has leave (label P.k (on_line net stage l))) (queue_of (network R net).requests stage (label P.k (on_line net stage l)))
  pub low_replies : (stage : ℕ) (behind before : Marks) (leave : ℕ) → stage < P.k
      → MarksReplies (level_at R.low.replies (suc stage)) behind → MarksReplies (level_at R.low.replies stage) before
      → IsSetOf (leaves (P.k - 1 - stage) (heads_of behind) (room_of before) (slice_index_or R.low.back_turns stage 0)) leave
      → (l : ℕ) → l < lines P.k → moved_reply (moves P (states_of R)) (on_line LowNet (suc stage) l)
      ≡ if_leaves (has leave (label P.k (on_line LowNet (suc stage) l))) (queue_of R.low.replies (suc stage) (label P.k (on_line LowNet (suc stage) l)))
  pub comb_replies : (stage : ℕ) (behind before : Marks) (leave : ℕ) → stage < P.k
      → MarksReplies (level_at R.comb.replies (suc stage)) behind → MarksReplies (level_at R.comb.replies stage) before
      → IsSetOf (leaves_both (P.k - 1 - stage) behind.any (room_of before) (slice_index_or R.comb.back_turns stage 0)) leave
      → (l : ℕ) → l < lines P.k → moved_reply (moves P (states_of R)) (on_line CombNet (suc stage) l)
      ≡ if_leaves (has leave (label P.k (on_line CombNet (suc stage) l))) (queue_of R.comb.replies (suc stage) (label P.k (on_line CombNet (suc stage) l)))
  pub entering : (net : Net) (before behind : Marks)
      → MarksRequests (level_at (network R net).requests P.k) before → MarksRequests (level_at (network R net).requests (suc P.k)) behind
      → (l : ℕ) → l < lines P.k → moved_request (moves P (states_of R)) (on_line net P.k l)
      ≡ if_leaves (has before.any (label P.k (on_line net P.k l)) && has behind.one (label P.k (on_line net P.k l))) (queue_of (network R net).requests P.k (label P.k (on_line net P.k l)))
  pub received : (net : Net) (behind : Marks) → MarksReplies (level_at (network R net).replies 0) behind
      → (l : ℕ) → l < lines P.k → moved_reply (moves P (states_of R)) (on_line net 0 l)
      ≡ if_leaves (has behind.any (label P.k (on_line net 0 l))) (queue_of (network R net).replies 0 (label P.k (on_line net 0 l)))
  pub served : (low_requests comb_requests low_replies comb_replies : Marks) (low comb m : ℕ) → m < lines P.k
      → MarksRequests (level_at R.low.requests (suc P.k)) low_requests → MarksRequests (level_at R.comb.requests (suc P.k)) comb_requests
      → MarksReplies (level_at R.low.replies P.k) low_replies → MarksReplies (level_at R.comb.replies P.k) comb_replies
      → IsSetOf (λ x. has low_requests.any x && has low_replies.one x) low → IsSetOf (λ x. has comb_requests.any x && has comb_replies.one x) comb
      → served_at low comb R.module_turns m ≡ served_net (module_of R m) (depth_of P ModuleQueue)

abbrev pub RowsDecide : Type 0
RowsDecide = (P : Project) → IsProject P → (R : Arrays) → IsRow R → IsRowOf P R → RowDecides P R

-- and the turns one cycle later are those of what moves to the queues of a switch
pub record RowTurns (P : Project) (R : Arrays) : Type 0 where
  pub requests : (net : Net) (stage : ℕ) (before behind : Marks) (leave next : ℕ) → stage < P.k
      → MarksRequests (level_at (network R net).requests stage) before → MarksRequests (level_at (network R net).requests (suc stage)) behind
      → IsSetOf (leaves (P.k - 1 - stage) (heads_of before) (room_of behind) (slice_index_or (network R net).turns stage 0)) leave
      → TurnsAfter (slice_index_or (network R net).turns stage 0)
      (comes (P.k - 1 - stage) (heads_of before) (room_of behind) (slice_index_or (network R net).turns stage 0) 0)
      (comes (P.k - 1 - stage) (heads_of before) (room_of behind) (slice_index_or (network R net).turns stage 0) 1) next
      → (j o : ℕ) → j < half P.k → o < 2 → bit (port_label P.k stage j o) next ≡ turn_after (turn_of (network R net).turns stage (port_label P.k stage j o))
      (is_some (request_to (P.k - 1 - stage) o (moved_request (moves P (states_of R)) (wire_into P.k net stage j 0))))
      (is_some (request_to (P.k - 1 - stage) o (moved_request (moves P (states_of R)) (wire_into P.k net stage j 1))))
  pub low_replies : (stage : ℕ) (behind before : Marks) (leave next : ℕ) → stage < P.k
      → MarksReplies (level_at R.low.replies (suc stage)) behind → MarksReplies (level_at R.low.replies stage) before
      → IsSetOf (leaves (P.k - 1 - stage) (heads_of behind) (room_of before) (slice_index_or R.low.back_turns stage 0)) leave
      → TurnsAfter (slice_index_or R.low.back_turns stage 0)
      (comes (P.k - 1 - stage) (heads_of behind) (room_of before) (slice_index_or R.low.back_turns stage 0) 0)
      (comes (P.k - 1 - stage) (heads_of behind) (room_of before) (slice_index_or R.low.back_turns stage 0) 1) next
      → (j i : ℕ) → j < half P.k → i < 2 → bit (port_label P.k stage j i) next ≡ turn_after (turn_of R.low.back_turns stage (port_label P.k stage j i))
      (is_some (reply_to (P.k - 1 - stage) i (moved_reply (moves P (states_of R)) (wire_out LowNet stage j 0))))
      (is_some (reply_to (P.k - 1 - stage) i (moved_reply (moves P (states_of R)) (wire_out LowNet stage j 1))))
  pub comb_replies : (stage : ℕ) (behind before : Marks) (leave next : ℕ) → stage < P.k
      → MarksReplies (level_at R.comb.replies (suc stage)) behind → MarksReplies (level_at R.comb.replies stage) before
      → IsSetOf (leaves_both (P.k - 1 - stage) behind.any (room_of before) (slice_index_or R.comb.back_turns stage 0)) leave
      → TurnsAfter (slice_index_or R.comb.back_turns stage 0)
      (comes_both (P.k - 1 - stage) behind.any (room_of before) (slice_index_or R.comb.back_turns stage 0) 0)
      (comes_both (P.k - 1 - stage) behind.any (room_of before) (slice_index_or R.comb.back_turns stage 0) 1) next
      → (j : ℕ) → j < half P.k → bit (switch_label P.k stage j) next ≡ turn_after (turn_of R.comb.back_turns stage (switch_label P.k stage j))
      (is_some (moved_reply (moves P (states_of R)) (wire_out CombNet stage j 0)))
      (is_some (moved_reply (moves P (states_of R)) (wire_out CombNet stage j 1)))

abbrev pub RowsTurn : Type 0
RowsTurn = (P : Project) → IsProject P → (R : Arrays) → IsRow R → IsRowOf P R → RowTurns P R
