-- What modules and processors do in a cycle, by label.
use Rattle.std.specs.Prelude.{◌≡◌, ◌≢◌, ℕ, ◌<◌, ◌≤◌, ◌+◌, true, false, if◌then◌else◌, List, [], ◌∷◌, length, Option, None, Some, slice_index_or}
use Rattle.omega_net.specs.declared.message.Request.{Request}
use Rattle.omega_net.specs.declared.message.Reply.{Reply}
use Rattle.omega_net.specs.Queues.{head, without_head, joined}
use Rattle.omega_net.specs.Ports.{queue_at}
use Rattle.mem_module.specs.declared.words.Stored.{Stored}
use Rattle.mem_module.specs.MemModule.{answer_to, words_after}
use Rattle.ref_proc.specs.declared.state.Outgoing.{Outgoing}
use Rattle.ref_proc.specs.declared.state.ProcState.{ProcState}
use Rattle.ref_proc.specs.RefProc.{proc_start, proc_after}
use Rattle.machine_cells.specs.Cycle.{proc_settings}
use Rattle.project_book.specs.Project.{Project}
use Rattle.flat_row.specs.Masks.{has}
use Rattle.flat_row.specs.Queues.{Queues}
use Rattle.flat_row.specs.Row.{out_from, Rests}
use Rattle.flat_row.specs.Combining.{SameLevel}
use Rattle.flat_row.specs.declared.acting.Replies.{Replies}
use Rattle.flat_row.specs.Rows.{if_leaves}

-- a reply to nobody, and the one at a label
abbrev pub no_reply : Reply
no_reply = record { tag = record { proc = 0; issue = 0 }; word = 0 }

abbrev pub reply_at : List Reply → ℕ → Reply
reply_at replies m = slice_index_or replies m no_reply

-- the words of a module
abbrev pub words_of : List (List Stored) → ℕ → List Stored
words_of words m = slice_index_or words m []

-- these modules have served their heads, and their answers are kept
pub record AllServed (modules : ℕ) (old new : Queues Request) (words next : List (List Stored)) (answers : List Reply) : Type 0 where
  pub queues : (m : ℕ) → m < 64 → queue_at new.queues m ≡ without_head (has modules m) (queue_at old.queues m)
  pub stored : (m : ℕ) → m < 64 → words_of next m ≡ words_after (words_of words m) (if_leaves (has modules m) (queue_at old.queues m))
  pub made : (m : ℕ) → m < 64 → has modules m ≡ true → Some (reply_at answers m) ≡ answer_to (words_of words m) (head (queue_at old.queues m))

-- the modules of a set, and no others, have other words than before
pub record Wrote (set : ℕ) (words next : List (List Stored)) : Type 0 where
  pub same : (m : ℕ) → m < 64 → has set m ≡ false → words_of next m ≡ words_of words m
  pub other : (m : ℕ) → m < 64 → has set m ≡ true → words_of next m ≡ words_of words m → ⊥

-- the answers of these modules wait
abbrev pub AreAnswered : ℕ → List Reply → Queues Reply → Queues Reply → Type 0
AreAnswered modules answers old new = (m : ℕ) → m < 64 → queue_at new.queues m ≡ joined (queue_at old.queues m) (if has modules m then Some (reply_at answers m) else None)

-- the reply at a label, of those that have come
abbrev pub got_at : Replies → ℕ → Option Reply
got_at got p = if has got.set p then Some (reply_at got.at p) else None

-- these processors have received their replies
pub record AllReceived (set : ℕ) (old new : Queues Reply) (got : Replies) : Type 0 where
  pub queues : (p : ℕ) → p < 64 → queue_at new.queues p ≡ without_head (has set p) (queue_at old.queues p)
  pub messages : (p : ℕ) → p < 64 → got_at got p ≡ if_leaves (has set p) (queue_at old.queues p)

-- a processor but for what it shows
abbrev pub proc_at : List ProcState → ℕ → ProcState
proc_at procs p = slice_index_or procs p proc_start

-- a processor, with what it shows on the networks
abbrev pub shown_with : List ProcState → Queues Request → Queues Request → ℕ → ProcState
shown_with procs low comb p = record (proc_at procs p) { out = out_from (head (queue_at low.queues p)) (head (queue_at comb.queues p)) }

-- a processor one cycle later, where it receives these replies, and what leaves has left
abbrev pub acted : Project → ℕ → Option Reply → Option Reply → ProcState → ProcState
acted P p low comb s = proc_after (proc_settings P p s.index) (record { replies = low ∷ comb ∷ []; request_leaves = false }) s

-- a processor that isn't asked to act: no reply has come to it, and it rests
pub record Stays (P : Project) (low_got comb_got : Replies) (s : ProcState) (p : ℕ) : Type 0 where
  pub low_none : has low_got.set p ≡ false
  pub comb_none : has comb_got.set p ≡ false
  pub rests : Rests P p s

-- a processor shows at most one request
abbrev pub ShowsOne : Queues Request → Queues Request → ℕ → Type 0
ShowsOne low comb p = length (queue_at low.queues p).items + length (queue_at comb.queues p).items ≤ 1

-- a processor that showed this still shows it, or it has issued a request where it showed none
pub record HasIssued (before : Option Outgoing) (s : ProcState) : Type 0 where
  pub still : s.sent ≡ false → s.out ≡ before
  pub issued : s.sent ≡ true → (before ≡ None) × ((o : Outgoing) × (s.out ≡ Some o))

-- so many processors are there, and on both networks the queues of what they show
pub record HasProcs (n : ℕ) (procs : List ProcState) (low comb : Queues Request) : Type 0 where
  pub many : length procs ≡ n
  pub low_many : length low.queues ≡ n
  pub comb_many : length comb.queues ≡ n

-- as many processors as before, and as many queues of what they show, by the same rules
pub record SameProcs (procs next : List ProcState) (low low_new comb comb_new : Queues Request) : Type 0 where
  pub many : length next ≡ length procs
  pub low_same : SameLevel low low_new
  pub comb_same : SameLevel comb comb_new

-- at most what one processor shows is something else than before
pub record OnlyShown (p : ℕ) (low low_new comb comb_new : Queues Request) : Type 0 where
  pub low_same : SameLevel low low_new
  pub comb_same : SameLevel comb comb_new
  pub low_others : (q : ℕ) → q ≢ p → queue_at low_new.queues q ≡ queue_at low.queues q
  pub comb_others : (q : ℕ) → q ≢ p → queue_at comb_new.queues q ≡ queue_at comb.queues q

-- at most one processor, with what it shows, is another than before
pub record OnlyProc (p : ℕ) (procs next : List ProcState) (low low_new comb comb_new : Queues Request) : Type 0 where
  pub many : length next ≡ length procs
  pub others : (q : ℕ) → q ≢ p → proc_at next q ≡ proc_at procs q
  pub shown : OnlyShown p low low_new comb comb_new
