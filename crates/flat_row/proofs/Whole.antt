-- The row one cycle later, by what each part of a step leaves.
use Rattle.std.proofs.Common.{◌≡◌, ℕ, suc, ◌<◌, ◌≤◌, Bool, true, false, cond, List, [], ◌∷◌, refl, ap, sym, ◌∙◌, Option, None, Some, arith}
use Rattle.std.specs.Prelude.{◌||◌, is_some, bit_or}
use Rattle.arrayvec.specs.ArrayVec.{ArrayVec}
use Rattle.omega_net.specs.declared.component.Net.{Net}
use Rattle.omega_net.specs.declared.component.Net.TheVariants.{Low as LowNet, Comb as CombNet}
use Rattle.omega_net.specs.declared.message.Request.{Request}
use Rattle.omega_net.specs.declared.message.Reply.{Reply}
use Rattle.omega_net.specs.Numbers.{lines}
use Rattle.omega_net.specs.Wires.{wire_of_proc, wire_of_module}
use Rattle.omega_net.specs.Queues.{head, without_head, joined}
use Rattle.omega_net.specs.Ports.{queue_at}
use Rattle.mem_module.specs.declared.words.Stored.{Stored}
use Rattle.mem_module.specs.declared.state.ModuleState.{ModuleState}
use Rattle.mem_module.specs.MemModule.{is_net, answer_to, served_net, words_after, module_serving, module_after}
use Rattle.ref_proc.specs.declared.state.ProcState.{ProcState}
use Rattle.ref_proc.specs.RefProc.{net_for, proc_after}
use Rattle.project_book.specs.Project.{Project, depth_of}
use Rattle.project_book.specs.declared.edit.Depths.TheVariants.{ModuleQueue}
use Rattle.machine_cells.specs.Moves.{Move, moves, moved_request, moved_reply}
use Rattle.machine_cells.specs.Cycle.{module_traffic, proc_traffic, proc_settings}
use Rattle.flat_row.specs.Labels.{label, LabelsName}
use Rattle.flat_row.specs.Masks.{has}
use Rattle.flat_row.specs.Queues.{Queues}
use Rattle.flat_row.specs.Shows.{on_line}
use Rattle.flat_row.specs.Row.{Arrays, IsRow, queue_of, states_of, module_of, proc_of, out_of, out_from}
use Rattle.flat_row.specs.Rows.{if_leaves, network}
use Rattle.flat_row.specs.Moving.{leaves_forth, leaves_back}
use Rattle.flat_row.specs.Ends.{words_of, proc_at, shown_with, acted}
use Rattle.flat_row.specs.Leaving.{AllForth, AllBack, Enters, Receives}
use Rattle.flat_row.specs.Step.{Serves}
use Rattle.flat_row.proofs.Labelling.{each_is_named}
use Rattle.flat_row.proofs.Masking.{has_or}
use Rattle.flat_row.proofs.Stepping.{leaves_same, level_moved, back_moved}
use Rattle.flat_row.proofs.Finishing.{module_steps, out_left, proc_steps}

-- at processors and at modules a line is its own label
proc_label : (k p : ℕ) → label k (on_line LowNet 0 p) ≡ p
proc_label k p = let named : LabelsName k = each_is_named k in named.processors p

module_label : (k m : ℕ) → m < lines k → label k (on_line LowNet k m) ≡ m
module_label k m h = let named : LabelsName k = each_is_named k in named.modules m h

-- a module: what its levels hold one cycle later, on one network
module _ (P : Project) (few : P.k ≤ 6) (R : Arrays) (net : Net) (forth turns back back_turns : List ℕ) (enter received : ℕ)
    (all : AllForth P R net P.k forth turns) (ends : Enters P R net enter) (all_back : AllBack P R net P.k back back_turns) (receives : Receives P R net received) (m : ℕ) (within : m < lines P.k) where
  -- what enters it, and what leaves it
  pub enters_it : moved_request (moves P (states_of R)) (wire_of_module P.k net m) ≡ if_leaves (has enter m) (queue_of (network R net).requests P.k m)
  enters_it = ends.moved m within ∙ ap (λ x. if_leaves (has enter x) (queue_of (network R net).requests P.k x)) (module_label P.k m within)

  pub leaves_it : moved_reply (moves P (states_of R)) (wire_of_module P.k net m) ≡ if_leaves (leaves_back received back P.k m) (queue_of (network R net).replies P.k m)
  leaves_it =
      back_moved P R net back back_turns received all_back receives P.k m (omega arith) within
      ∙ ap (λ x. if_leaves (leaves_back received back P.k x) (queue_of (network R net).replies P.k x)) (module_label P.k m within)

-- a processor: what it receives, and what leaves it, on one network
module _ (P : Project) (R : Arrays) (net : Net) (forth turns : List ℕ) (enter received : ℕ)
    (all : AllForth P R net P.k forth turns) (ends : Enters P R net enter) (receives : Receives P R net received) (p : ℕ) (within : p < lines P.k) where
  pub receives_it : moved_reply (moves P (states_of R)) (wire_of_proc net p) ≡ if_leaves (has received p) (queue_of (network R net).replies 0 p)
  receives_it = receives.moved p within ∙ ap (λ x. if_leaves (has received x) (queue_of (network R net).replies 0 x)) (proc_label P.k p)

  pub sends_it : moved_request (moves P (states_of R)) (wire_of_proc net p) ≡ if_leaves (leaves_forth P.k forth enter 0 p) (queue_of (network R net).requests 0 p)
  sends_it =
      level_moved P R net forth turns enter all ends 0 p (omega arith) within
      ∙ ap (λ x. if_leaves (leaves_forth P.k forth enter 0 x) (queue_of (network R net).requests 0 x)) (proc_label P.k p)

one_served : (N : Option Net) → (is_net LowNet N || is_net CombNet N) ≡ is_some N
one_served None = refl
one_served (Some LowNet) = refl
one_served (Some CombNet) = refl

if_true : {T : Type 0} (t : Bool) (a b : Option T) → (t ≡ true → a ≡ b) → cond t a None ≡ cond t b None
if_true true a b h = h refl
if_true false a b h = refl

-- a module one cycle later
module _ (P : Project) (few : P.k ≤ 6) (R S : Arrays) (size : R.k ≡ P.k) (same_size : S.k ≡ P.k) (low comb next : ℕ) (serves : Serves P R low comb next) (m : ℕ) (within : m < lines P.k)
    (low_in comb_in : Option Request) (low_leaves comb_leaves : Bool) (low_answer comb_answer : Reply)
    (low_moves : moved_request (moves P (states_of R)) (wire_of_module P.k LowNet m) ≡ low_in) (comb_moves : moved_request (moves P (states_of R)) (wire_of_module P.k CombNet m) ≡ comb_in)
    (low_gone : moved_reply (moves P (states_of R)) (wire_of_module P.k LowNet m) ≡ if_leaves low_leaves (queue_of R.low.replies P.k m))
    (comb_gone : moved_reply (moves P (states_of R)) (wire_of_module P.k CombNet m) ≡ if_leaves comb_leaves (queue_of R.comb.replies P.k m))
    (low_queue : queue_of S.low.requests (suc P.k) m ≡ joined (without_head (has low m) (queue_of R.low.requests (suc P.k) m)) low_in)
    (comb_queue : queue_of S.comb.requests (suc P.k) m ≡ joined (without_head (has comb m) (queue_of R.comb.requests (suc P.k) m)) comb_in)
    (low_replies : queue_of S.low.replies P.k m ≡ joined (without_head low_leaves (queue_of R.low.replies P.k m)) (cond (has low m) (Some low_answer) None))
    (comb_replies : queue_of S.comb.replies P.k m ≡ joined (without_head comb_leaves (queue_of R.comb.replies P.k m)) (cond (has comb m) (Some comb_answer) None))
    (words : words_of S.words m ≡ words_after (words_after (words_of R.words m) (if_leaves (has low m) (queue_of R.low.requests (suc P.k) m))) (if_leaves (has comb m) (queue_of R.comb.requests (suc P.k) m)))
    (low_said : has low m ≡ true → Some low_answer ≡ answer_to (words_of R.words m) (head (queue_of R.low.requests (suc P.k) m)))
    (comb_said : has comb m ≡ true → Some comb_answer ≡ answer_to (words_after (words_of R.words m) (if_leaves (has low m) (queue_of R.low.requests (suc P.k) m))) (head (queue_of R.comb.requests (suc P.k) m)))
    (turns : S.module_turns ≡ next) (marks : S.served ≡ bit_or low comb) where
  abbrev N : Option Net
  N = served_net (module_of R m) (depth_of P ModuleQueue)

  abbrev M : List Move
  M = moves P (states_of R)

  -- the same state, where the number of processors is the project's
  abbrev module_at : Arrays → ℕ → ModuleState
  module_at A k = record {
    words = words_of A.words m;
    requests = queue_of A.low.requests (suc k) m ∷ queue_of A.comb.requests (suc k) m ∷ [];
    replies = queue_of A.low.replies k m ∷ queue_of A.comb.replies k m ∷ [];
    turn = net_for (has A.module_turns m);
    served = has A.served m;
  }

  abbrev put_module : List Stored → ArrayVec Request → ArrayVec Request → ArrayVec Reply → ArrayVec Reply → Net → Bool → ModuleState
  put_module ws a b c d t v = record { words = ws; requests = a ∷ b ∷ []; replies = c ∷ d ∷ []; turn = t; served = v }

  abbrev qa : ArrayVec Request
  qa = queue_of R.low.requests (suc P.k) m

  abbrev qb : ArrayVec Request
  qb = queue_of R.comb.requests (suc P.k) m

  abbrev qc : ArrayVec Reply
  qc = queue_of R.low.replies P.k m

  abbrev qd : ArrayVec Reply
  qd = queue_of R.comb.replies P.k m

  served_is : has (bit_or low comb) m ≡ is_some N
  served_is = has_or low comb m ∙ ap (λ t. t || has comb m) (serves.low_so m within) ∙ ap (λ t. is_net LowNet N || t) (serves.comb_so m within) ∙ one_served N

  -- with the replies that leave said by what moves
  low_left : without_head low_leaves qc ≡ without_head (is_some (moved_reply M (wire_of_module P.k LowNet m))) qc
  low_left = leaves_same low_leaves qc ∙ ap (λ o. without_head (is_some o) qc) (sym low_gone)

  comb_left : without_head comb_leaves qd ≡ without_head (is_some (moved_reply M (wire_of_module P.k CombNet m))) qd
  comb_left = leaves_same comb_leaves qd ∙ ap (λ o. without_head (is_some o) qd) (sym comb_gone)

  abbrev words_then : List Stored
  words_then = words_after (words_after (words_of R.words m) (if_leaves (has low m) qa)) (if_leaves (has comb m) qb)

  abbrev low_then : ArrayVec Request
  low_then = joined (without_head (has low m) qa) (moved_request M (wire_of_module P.k LowNet m))

  abbrev comb_then : ArrayVec Request
  comb_then = joined (without_head (has comb m) qb) (moved_request M (wire_of_module P.k CombNet m))

  abbrev low_back_then : ArrayVec Reply
  low_back_then = joined (without_head (is_some (moved_reply M (wire_of_module P.k LowNet m))) qc) (cond (has low m) (Some low_answer) None)

  pub module_whole : module_of S m ≡ module_after (depth_of P ModuleQueue) (module_traffic M P.k m) (module_of R m)
  module_whole =
      ap (module_at S) same_size
      ∙ ap (λ w. put_module w (queue_of S.low.requests (suc P.k) m) (queue_of S.comb.requests (suc P.k) m) (queue_of S.low.replies P.k m) (queue_of S.comb.replies P.k m) (net_for (has S.module_turns m)) (has S.served m)) words
      ∙ ap (λ q. put_module words_then q (queue_of S.comb.requests (suc P.k) m) (queue_of S.low.replies P.k m) (queue_of S.comb.replies P.k m) (net_for (has S.module_turns m)) (has S.served m)) (low_queue ∙ ap (joined (without_head (has low m) qa)) (sym low_moves))
      ∙ ap (λ q. put_module words_then low_then q (queue_of S.low.replies P.k m) (queue_of S.comb.replies P.k m) (net_for (has S.module_turns m)) (has S.served m)) (comb_queue ∙ ap (joined (without_head (has comb m) qb)) (sym comb_moves))
      ∙ ap (λ q. put_module words_then low_then comb_then q (queue_of S.comb.replies P.k m) (net_for (has S.module_turns m)) (has S.served m)) (low_replies ∙ ap (λ q. joined q (cond (has low m) (Some low_answer) None)) low_left)
      ∙ ap (λ q. put_module words_then low_then comb_then low_back_then q (net_for (has S.module_turns m)) (has S.served m)) (comb_replies ∙ ap (λ q. joined q (cond (has comb m) (Some comb_answer) None)) comb_left)
      ∙ module_steps (words_of R.words m) qa qb qc qd (net_for (has R.module_turns m)) (has R.served m) (moved_request M (wire_of_module P.k LowNet m)) (moved_request M (wire_of_module P.k CombNet m))
      (is_some (moved_reply M (wire_of_module P.k LowNet m))) (is_some (moved_reply M (wire_of_module P.k CombNet m))) N (has low m) (has comb m)
      (cond (has low m) (Some low_answer) None) (cond (has comb m) (Some comb_answer) None) (net_for (has S.module_turns m)) (has S.served m)
      (serves.low_so m within) (serves.comb_so m within)
      (if_true (has low m) (Some low_answer) (answer_to (words_of R.words m) (head qa)) low_said)
      (if_true (has comb m) (Some comb_answer) (answer_to (words_after (words_of R.words m) (if_leaves (has low m) qa)) (head qb)) comb_said)
      (ap (λ t. net_for (has t m)) turns ∙ serves.turn_so m within) (ap (λ t. has t m) marks ∙ served_is)
      ∙ ap (λ k. module_serving (module_traffic M P.k m) (module_at R k) N) (sym size)

-- a processor one cycle later
module _ (P : Project) (R S : Arrays) (row : IsRow R) (p : ℕ) (within : p < lines P.k) (at_low at_comb : Bool) (low_got comb_got : Option Reply) (low comb : Queues Request)
    (low_moves : moved_request (moves P (states_of R)) (wire_of_proc LowNet p) ≡ if_leaves at_low (queue_of R.low.requests 0 p))
    (comb_moves : moved_request (moves P (states_of R)) (wire_of_proc CombNet p) ≡ if_leaves at_comb (queue_of R.comb.requests 0 p))
    (low_comes : moved_reply (moves P (states_of R)) (wire_of_proc LowNet p) ≡ low_got) (comb_comes : moved_reply (moves P (states_of R)) (wire_of_proc CombNet p) ≡ comb_got)
    (low_left : queue_at low.queues p ≡ without_head at_low (queue_of R.low.requests 0 p)) (comb_left : queue_at comb.queues p ≡ without_head at_comb (queue_of R.comb.requests 0 p))
    (acts : proc_of S p ≡ acted P p low_got comb_got (shown_with R.procs low comb p)) where
  abbrev K : List Move
  K = moves P (states_of R)

  abbrev gone : Bool
  gone = is_some (moved_request K (wire_of_proc LowNet p)) || is_some (moved_request K (wire_of_proc CombNet p))

  abbrev mine : ProcState
  mine = proc_at R.procs p

  left_is : out_from (head (queue_at low.queues p)) (head (queue_at comb.queues p)) ≡ cond gone None (out_of R p)
  left_is =
      ap (λ q. out_from (head q) (head (queue_at comb.queues p))) low_left
      ∙ ap (λ q. out_from (head (without_head at_low (queue_of R.low.requests 0 p))) (head q)) comb_left
      ∙ out_left (queue_of R.low.requests 0 p) (queue_of R.comb.requests 0 p) at_low at_comb (row.one_out p)
      ∙ ap (λ o. cond (is_some o || is_some (if_leaves at_comb (queue_of R.comb.requests 0 p))) None (out_of R p)) (sym low_moves)
      ∙ ap (λ o. cond (is_some (moved_request K (wire_of_proc LowNet p)) || is_some o) None (out_of R p)) (sym comb_moves)

  pub proc_whole : proc_of S p ≡ proc_after (proc_settings P p (proc_of R p).index) (proc_traffic K p) (proc_of R p)
  proc_whole =
      acts
      ∙ ap (λ y. acted P p y comb_got (shown_with R.procs low comb p)) (sym low_comes)
      ∙ ap (λ y. acted P p (moved_reply K (wire_of_proc LowNet p)) y (shown_with R.procs low comb p)) (sym comb_comes)
      ∙ proc_steps (proc_settings P p mine.index) (moved_reply K (wire_of_proc LowNet p) ∷ moved_reply K (wire_of_proc CombNet p) ∷ []) mine gone
      (out_from (head (queue_at low.queues p)) (head (queue_at comb.queues p))) (out_of R p) left_is
