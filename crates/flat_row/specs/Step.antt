-- What the parts of a step leave of a network.
use Rattle.std.specs.Prelude.{◌≡◌, ℕ, suc, ◌+◌, ◌-◌, ◌<◌, ◌≤◌, true, if◌then◌else◌, List, length, None, Some, IsSome}
use Rattle.omega_net.specs.declared.component.Net.{Net}
use Rattle.omega_net.specs.declared.component.Net.TheVariants.{Low as LowNet, Comb as CombNet}
use Rattle.omega_net.specs.declared.message.Request.{Request}
use Rattle.omega_net.specs.declared.message.Reply.{Reply}
use Rattle.omega_net.specs.Numbers.{lines}
use Rattle.omega_net.specs.Wires.{bit}
use Rattle.omega_net.specs.Queues.{head, without_head, joined}
use Rattle.mem_module.specs.declared.words.Stored.{Stored}
use Rattle.mem_module.specs.MemModule.{is_net, served_net, turn_from, answer_to, words_after}
use Rattle.ref_proc.specs.declared.state.ProcState.{ProcState}
use Rattle.ref_proc.specs.RefProc.{net_for}
use Rattle.project_book.specs.Project.{Project, depth_of}
use Rattle.project_book.specs.declared.edit.Depths.TheVariants.{ModuleQueue}
use Rattle.flat_row.specs.Masks.{has}
use Rattle.flat_row.specs.Queues.{Queues}
use Rattle.flat_row.specs.Row.{Network, Buffers, Arrays, HasLevels, Rests, level_at, queue_of, module_of}
use Rattle.flat_row.specs.Rows.{if_leaves}
use Rattle.flat_row.specs.Moving.{SameShape, left_back}
use Rattle.flat_row.specs.Combining.{splitting}
use Rattle.flat_row.specs.Stages.{SameBuffers, buffers_in, returned_at}
use Rattle.flat_row.specs.Ends.{reply_at, got_at, words_of, shown_with, acted, ShowsOne}
use Rattle.flat_row.specs.Leaving.{WaitForth, AllForth, AllBack, Enters, Receives}
use Rattle.flat_row.specs.declared.leaving.Plan.{Plan}
use Rattle.flat_row.specs.declared.acting.Replies.{Replies}

-- which modules serve which network in the whole state of a row, and the turns one cycle later; where one serves, a request waits
pub record Serves (P : Project) (R : Arrays) (low comb next : ℕ) : Type 0 where
  pub low_so : (m : ℕ) → m < lines P.k → has low m ≡ is_net LowNet (served_net (module_of R m) (depth_of P ModuleQueue))
  pub comb_so : (m : ℕ) → m < lines P.k → has comb m ≡ is_net CombNet (served_net (module_of R m) (depth_of P ModuleQueue))
  pub turn_so : (m : ℕ) → m < lines P.k → net_for (has next m) ≡ turn_from (net_for (has R.module_turns m)) (served_net (module_of R m) (depth_of P ModuleQueue))
  pub low_waits : WaitForth R LowNet (suc P.k) low
  pub comb_waits : WaitForth R CombNet (suc P.k) comb

-- modules can serve the heads of a network's requests: all levels and all modules are there, and where one is to serve, a request waits
pub record CanServe (k modules : ℕ) (requests : List (Queues Request)) (words : List (List Stored)) : Type 0 where
  pub levels : HasLevels (k + 2) (lines k) requests
  pub some : (m : ℕ) → m < 64 → has modules m ≡ true → IsSome (head (queue_of requests (suc k) m))
  pub there : lines k ≤ length words

-- nothing but a network's level of requests at the modules is another one
pub record OnlyModules (k : ℕ) (old new : Network) : Type 0 where
  pub replies : new.replies ≡ old.replies
  pub turns : new.turns ≡ old.turns
  pub back_turns : new.back_turns ≡ old.back_turns
  pub shape : SameShape old.requests new.requests
  pub others : (l z : ℕ) → (l ≡ suc k → ⊥) → queue_of new.requests l z ≡ queue_of old.requests l z

-- modules have served both networks, the low one first
pub record BothServed (k low comb : ℕ) (low_old low_new comb_old comb_new : Network) (words next : List (List Stored)) (low_answers comb_answers : List Reply) : Type 0 where
  pub low_queues : (m : ℕ) → m < 64 → queue_of low_new.requests (suc k) m ≡ without_head (has low m) (queue_of low_old.requests (suc k) m)
  pub comb_queues : (m : ℕ) → m < 64 → queue_of comb_new.requests (suc k) m ≡ without_head (has comb m) (queue_of comb_old.requests (suc k) m)
  pub stored : (m : ℕ) → m < 64 → words_of next m
      ≡ words_after (words_after (words_of words m) (if_leaves (has low m) (queue_of low_old.requests (suc k) m))) (if_leaves (has comb m) (queue_of comb_old.requests (suc k) m))
  pub low_made : (m : ℕ) → m < 64 → has low m ≡ true → Some (reply_at low_answers m) ≡ answer_to (words_of words m) (head (queue_of low_old.requests (suc k) m))
  pub comb_made : (m : ℕ) → m < 64 → has comb m ≡ true
      → Some (reply_at comb_answers m) ≡ answer_to (words_after (words_of words m) (if_leaves (has low m) (queue_of low_old.requests (suc k) m))) (head (queue_of comb_old.requests (suc k) m))

-- processors have received the heads of a network's first level of replies
pub record NetReceived (set : ℕ) (old new : Network) (got : Replies) : Type 0 where
  pub requests : new.requests ≡ old.requests
  pub turns : new.turns ≡ old.turns
  pub back_turns : new.back_turns ≡ old.back_turns
  pub shape : SameShape old.replies new.replies
  pub took : (z : ℕ) → z < 64 → queue_of new.replies 0 z ≡ without_head (has set z) (queue_of old.replies 0 z)
  pub rest : (l z : ℕ) → 0 < l → queue_of new.replies l z ≡ queue_of old.replies l z
  pub messages : (p : ℕ) → p < 64 → got_at got p ≡ if_leaves (has set p) (queue_of old.replies 0 p)

-- modules have answered on a network
pub record NetAnswered (k modules : ℕ) (answers : List Reply) (old new : Network) : Type 0 where
  pub requests : new.requests ≡ old.requests
  pub turns : new.turns ≡ old.turns
  pub back_turns : new.back_turns ≡ old.back_turns
  pub shape : SameShape old.replies new.replies
  pub last : (z : ℕ) → z < 64 → queue_of new.replies k z ≡ joined (queue_of old.replies k z) (if has modules z then Some (reply_at answers z) else None)
  pub rest : (l z : ℕ) → (l ≡ k → ⊥) → queue_of new.replies l z ≡ queue_of old.replies l z

-- requests have moved on a network, and replies; nothing else has
pub record OnlyRequests (old new : Network) : Type 0 where
  pub replies : new.replies ≡ old.replies
  pub turns : new.turns ≡ old.turns
  pub back_turns : new.back_turns ≡ old.back_turns
  pub shape : SameShape old.requests new.requests

pub record OnlyReplies (old new : Network) : Type 0 where
  pub requests : new.requests ≡ old.requests
  pub turns : new.turns ≡ old.turns
  pub back_turns : new.back_turns ≡ old.back_turns
  pub shape : SameShape old.replies new.replies

-- processors have acted: what they show on both networks, and nothing else, may be another; those of a set have stayed as they were,
-- and rest
pub record BothActed (P : Project) (low_got comb_got : Replies) (rests : ℕ) (low low_new comb comb_new : Network) (procs next : List ProcState) : Type 0 where
  pub low_only : OnlyRequests low low_new
  pub comb_only : OnlyRequests comb comb_new
  pub many : length next ≡ length procs
  pub low_others : (l z : ℕ) → 0 < l → queue_of low_new.requests l z ≡ queue_of low.requests l z
  pub comb_others : (l z : ℕ) → 0 < l → queue_of comb_new.requests l z ≡ queue_of comb.requests l z
  pub one : (p : ℕ) → ShowsOne (level_at low_new.requests 0) (level_at comb_new.requests 0) p
  pub acts : (p : ℕ) → p < lines P.k → shown_with next (level_at low_new.requests 0) (level_at comb_new.requests 0) p
      ≡ acted P p (got_at low_got p) (got_at comb_got p) (shown_with procs (level_at low.requests 0) (level_at comb.requests 0) p)
  pub stay : (p : ℕ) → p < lines P.k → has rests p ≡ true
      → shown_with next (level_at low_new.requests 0) (level_at comb_new.requests 0) p ≡ shown_with procs (level_at low.requests 0) (level_at comb.requests 0) p
  pub rest : (p : ℕ) → p < lines P.k → has rests p ≡ true → Rests P p (shown_with next (level_at low_new.requests 0) (level_at comb_new.requests 0) p)

-- requests have moved on a network, and processors have received what comes to them
pub record Departed (set : ℕ) (old new : Network) (got : Replies) : Type 0 where
  pub turns : new.turns ≡ old.turns
  pub back_turns : new.back_turns ≡ old.back_turns
  pub requests_shape : SameShape old.requests new.requests
  pub replies_shape : SameShape old.replies new.replies
  pub took : (z : ℕ) → z < 64 → queue_of new.replies 0 z ≡ without_head (has set z) (queue_of old.replies 0 z)
  pub rest : (l z : ℕ) → 0 < l → queue_of new.replies l z ≡ queue_of old.replies l z
  pub messages : (p : ℕ) → p < 64 → got_at got p ≡ if_leaves (has set p) (queue_of old.replies 0 p)

-- replies have moved on a network, modules have answered, and the turns have gone on
pub record Returned (k : ℕ) (back : List ℕ) (modules : ℕ) (answers : List Reply) (turns back_turns : List ℕ) (old new : Network) : Type 0 where
  pub requests : new.requests ≡ old.requests
  pub shape : SameShape old.replies new.replies
  pub turns_so : new.turns ≡ turns
  pub back_turns_so : new.back_turns ≡ back_turns
  pub last : (z : ℕ) → z < 64 → queue_of new.replies k z ≡ joined (left_back back old.replies k z) (if has modules z then Some (reply_at answers z) else None)

-- the replies of the combining network have crossed its stages
pub record CombsReturned (P : Project) (back : List ℕ) (old new : Network) (waits next : List Buffers) : Type 0 where
  pub buffers : SameBuffers waits next
  pub switches : (s x : ℕ) → s < P.k → x < 64 → bit (P.k - 1 - s) x ≡ 0 → splitting (P.k - 1 - s) (queue_of new.replies s) (buffers_in next s) x ≡ returned_at P back old.replies waits s x

-- what is decided of a network in a cycle is what moves there in the whole state that the row is
pub record IsPlan (P : Project) (R : Arrays) (net : Net) (plan : Plan) : Type 0 where
  pub forth : AllForth P R net P.k plan.forth.leave plan.forth.turns
  pub back : AllBack P R net P.k plan.back.leave plan.back.turns
  pub enter : Enters P R net plan.enter
  pub receive : Receives P R net plan.receive
  pub long : length plan.forth.turns ≡ 6
  pub back_long : length plan.back.turns ≡ 6
