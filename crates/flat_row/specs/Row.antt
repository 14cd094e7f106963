-- The row: what all components hold, by level and label; and the whole state that it is.
use Rattle.std.specs.Prelude.{◌≡◌, ℕ, suc, ◌+◌, ◌-◌, ◌*◌, ◌^◌, ◌<◌, ◌≤◌, ◌==◌, nat_lt, if◌then◌else◌, true, false, List, [], ◌∷◌, length, map, replicate, Option, None, Some, slice_index_or}
use Rattle.arrayvec.specs.ArrayVec.{ArrayVec}
use Rattle.omega_net.specs.declared.component.Net.{Net}
use Rattle.omega_net.specs.declared.component.Net.TheVariants.{Low as LowNet, Comb as CombNet}
use Rattle.omega_net.specs.declared.component.Component.{Component}
use Rattle.omega_net.specs.declared.component.Component.TheVariants.{Proc as ProcAt, Module as ModuleAt, Switch}
use Rattle.omega_net.specs.declared.message.Request.{Request}
use Rattle.omega_net.specs.declared.message.Reply.{Reply}
use Rattle.omega_net.specs.Numbers.{lines, components, component_of}
use Rattle.omega_net.specs.Wires.{bit, below}
use Rattle.omega_net.specs.Queues.{head}
use Rattle.omega_net.specs.Ports.{empty, queue_at}
use Rattle.ref_proc.specs.declared.state.Outgoing.{Outgoing}
use Rattle.ref_proc.specs.declared.state.ProcState.{ProcState}
use Rattle.ref_proc.specs.RefProc.{proc_start, proc_after, net_for}
use Rattle.mem_module.specs.declared.words.Stored.{Stored}
use Rattle.mem_module.specs.declared.state.ModuleState.{ModuleState}
use Rattle.low_switch.specs.declared.state.LowState.{LowState}
use Rattle.comb_switch.specs.declared.waiting.Waiting.{Waiting}
use Rattle.comb_switch.specs.declared.state.CombState.{CombState}
use Rattle.machine_cells.specs.declared.state.MachineState.{MachineState}
use Rattle.machine_cells.specs.declared.state.MachineState.TheVariants.{Proc, Module, Low, Comb}
use Rattle.project_book.specs.Project.{Project, forward, reverse, depth_of}
use Rattle.project_book.specs.declared.edit.Depths.TheVariants.{ModuleQueue}
use Rattle.machine_cells.specs.Run.{words_in}
use Rattle.machine_cells.specs.Cycle.{proc_settings}
use Rattle.flat_row.specs.declared.marks.Rule.{Rule}
use Rattle.flat_row.specs.Queues.{Queues}
use Rattle.flat_row.specs.Labels.{switch_label}
use Rattle.flat_row.specs.Masks.{has}

-- one network: requests by level (0: what processors show; s + 1: behind stage s; k + 1: what modules hold), replies by level (s: before
-- stage s; k: what modules show), and turns by stage, each a set of labels; the turns back of combining switches stand at port 0
pub record Network : Type 0 where
  pub requests : List (Queues Request)
  pub replies : List (Queues Reply)
  pub turns : List ℕ
  pub back_turns : List ℕ

-- what the combining switches of a stage hold beside their queues, at the label of port 0: the wait buffers, and which switches combined
-- a request in the last cycle, and which another one
pub record Buffers : Type 0 where
  pub entries : List (ArrayVec Waiting)
  pub once : ℕ
  pub twice : ℕ

-- the row; of processors all but what they show, of modules the words and marks by themselves, and the set of the processors that stay as
-- they are until a reply comes or what they show leaves
pub record Arrays : Type 0 where
  pub k : ℕ
  pub low : Network
  pub comb : Network
  pub buffers : List Buffers
  pub procs : List ProcState
  pub words : List (List Stored)
  pub module_turns : ℕ
  pub served : ℕ
  pub rests : ℕ

-- a level that isn't there
abbrev pub no_queues : {T : Type 0} → Queues T
no_queues = record { queues = []; rule = record { depth = 0; two = 0; one = 0; by = 0 } }

abbrev pub level_at : {T : Type 0} → List (Queues T) → ℕ → Queues T
level_at levels l = slice_index_or levels l no_queues

-- the queue of a level at a label
abbrev pub queue_of : {T : Type 0} → List (Queues T) → ℕ → ℕ → ArrayVec T
queue_of levels l x = queue_at (level_at levels l).queues x

-- the label of a switch's port
abbrev pub port_label : ℕ → ℕ → ℕ → ℕ → ℕ
port_label k s j o = switch_label k s j + o * 2 ^ (k - 1 - s)

-- the bit of a label in the set of a stage
abbrev pub turn_of : List ℕ → ℕ → ℕ → ℕ
turn_of sets s x = bit x (slice_index_or sets s 0)

-- a low switch, and a combining one with this wait buffer and that count
abbrev pub low_of : ℕ → Network → ℕ → ℕ → LowState
low_of k n s j = record {
  fwd = queue_of n.requests (suc s) (port_label k s j 0) ∷ queue_of n.requests (suc s) (port_label k s j 1) ∷ [];
  turn = turn_of n.turns s (port_label k s j 0) ∷ turn_of n.turns s (port_label k s j 1) ∷ [];
  rev = queue_of n.replies s (port_label k s j 0) ∷ queue_of n.replies s (port_label k s j 1) ∷ [];
  rturn = turn_of n.back_turns s (port_label k s j 0) ∷ turn_of n.back_turns s (port_label k s j 1) ∷ [];
}

abbrev pub comb_of : ℕ → Network → ℕ → ℕ → ArrayVec Waiting → ℕ → CombState
comb_of k n s j wait combined = record {
  fwd = queue_of n.requests (suc s) (port_label k s j 0) ∷ queue_of n.requests (suc s) (port_label k s j 1) ∷ [];
  rev = queue_of n.replies s (port_label k s j 0) ∷ queue_of n.replies s (port_label k s j 1) ∷ [];
  wait = wait;
  turn = turn_of n.turns s (port_label k s j 0) ∷ turn_of n.turns s (port_label k s j 1) ∷ [];
  rturn = turn_of n.back_turns s (port_label k s j 0);
  combined = combined;
}

abbrev pub switch_of : Net → ℕ → Network → ℕ → ℕ → ArrayVec Waiting → ℕ → MachineState
switch_of LowNet k n s j wait combined = Low (low_of k n s j)
switch_of CombNet k n s j wait combined = Comb (comb_of k n s j wait combined)

-- what a stage's combining switches hold beside their queues
abbrev pub buffers_at : Arrays → ℕ → Buffers
buffers_at R s = slice_index_or R.buffers s (record { entries = []; once = 0; twice = 0 })

abbrev pub wait_of : Buffers → ℕ → ArrayVec Waiting
wait_of b x = queue_at b.entries x

abbrev pub combined_of : Buffers → ℕ → ℕ
combined_of b x = bit x b.once + bit x b.twice

abbrev pub module_of : Arrays → ℕ → ModuleState
module_of R m = record {
  words = slice_index_or R.words m [];
  requests = queue_of R.low.requests (suc R.k) m ∷ queue_of R.comb.requests (suc R.k) m ∷ [];
  replies = queue_of R.low.replies R.k m ∷ queue_of R.comb.replies R.k m ∷ [];
  turn = net_for (has R.module_turns m);
  served = has R.served m;
}

-- what a processor shows is the request at level 0 of a network
abbrev pub out_from : Option Request → Option Request → Option Outgoing
out_from (Some r) comb = Some (record { net = LowNet; request = r })
out_from None (Some r) = Some (record { net = CombNet; request = r })
out_from None None = None

abbrev pub out_of : Arrays → ℕ → Option Outgoing
out_of R p = out_from (head (queue_of R.low.requests 0 p)) (head (queue_of R.comb.requests 0 p))

abbrev pub proc_of : Arrays → ℕ → ProcState
proc_of R p = record (slice_index_or R.procs p proc_start) { out = out_of R p }

-- the state of a component, and of all
abbrev pub state_of : Arrays → Option Component → MachineState
state_of R (Some (ProcAt p)) = Proc (proc_of R p)
state_of R (Some (ModuleAt m)) = Module (module_of R m)
state_of R (Some (Switch LowNet s j)) = switch_of LowNet R.k R.low s j empty 0
state_of R (Some (Switch CombNet s j)) = switch_of CombNet R.k R.comb s j (wait_of (buffers_at R s) (switch_label R.k s j)) (combined_of (buffers_at R s) (switch_label R.k s j))
state_of R None = Proc proc_start

abbrev pub states_of : Arrays → List MachineState
states_of R = map (λ c. state_of R (component_of R.k c)) (below (components R.k))

-- so many levels of so many queues each
pub record HasLevels {T : Type 0} (count most : ℕ) (levels : List (Queues T)) : Type 0 where
  pub many : length levels ≡ count
  pub each : (l : ℕ) → l < count → length (level_at levels l).queues ≡ most

-- the levels of a network of 2^k processors are there
pub record HasNetwork (k : ℕ) (n : Network) : Type 0 where
  pub requests : HasLevels (k + 2) (lines k) n.requests
  pub replies : HasLevels (k + 1) (lines k) n.replies
  pub turns : length n.turns ≡ 6
  pub back_turns : length n.back_turns ≡ 6

-- all arrays are as long as they should be, and no processor shows more than one request
pub record IsRow (R : Arrays) : Type 0 where
  pub small : R.k ≤ 6
  pub low : HasNetwork R.k R.low
  pub comb : HasNetwork R.k R.comb
  pub buffers : length R.buffers ≡ R.k
  pub entries : (s : ℕ) → s < R.k → length (buffers_at R s).entries ≡ lines R.k
  pub procs : length R.procs ≡ lines R.k
  pub words : length R.words ≡ lines R.k
  pub one_out : (p : ℕ) → length (queue_of R.low.requests 0 p).items + length (queue_of R.comb.requests 0 p).items ≤ 1

-- asked of queues whose head goes where it must: it is no bit of a route
abbrev pub no_bit : ℕ
no_bit = 63

-- what the queues of a level of requests are asked
abbrev pub request_rule : Project → Net → ℕ → Rule
request_rule P net l = record {
  depth = if l == P.k + 1 then depth_of P ModuleQueue else forward P net;
  two = 2;
  one = 1;
  by = if nat_lt l P.k then P.k - 1 - l else no_bit;
}

-- and those of a level of replies: a reply of the combining network may become two
abbrev pub places_for : Net → ℕ → ℕ
places_for LowNet n = n
places_for CombNet n = 2 * n

abbrev pub reply_rule : Project → Net → ℕ → Rule
reply_rule P net l = record {
  depth = if l == P.k then depth_of P ModuleQueue else reverse P net;
  two = if l == P.k then 2 else places_for net 2;
  one = if l == P.k then 1 else places_for net 1;
  by = if l == 0 then no_bit else P.k - l;
}

-- the levels ask what the machine of a project asks
pub record IsNetworkOf (P : Project) (net : Net) (n : Network) : Type 0 where
  pub requests : (l : ℕ) → l < P.k + 2 → (level_at n.requests l).rule ≡ request_rule P net l
  pub replies : (l : ℕ) → l < P.k + 1 → (level_at n.replies l).rule ≡ reply_rule P net l

-- a processor that is the same one cycle later, where no reply comes and what leaves has left
abbrev pub Rests : Project → ℕ → ProcState → Type 0
Rests P p s = proc_after (proc_settings P p s.index) (record { replies = None ∷ None ∷ []; request_leaves = false }) s ≡ s

-- the levels ask what the machine of a project asks, and the processors that are said to rest do
pub record IsRowOf (P : Project) (R : Arrays) : Type 0 where
  pub size : R.k ≡ P.k
  pub low : IsNetworkOf P LowNet R.low
  pub comb : IsNetworkOf P CombNet R.comb
  pub rest : (p : ℕ) → p < lines P.k → has R.rests p ≡ true → Rests P p (proc_of R p)

-- the levels of requests and of replies before the first cycle, from the first one on
abbrev pub first_requests : Project → Net → ℕ → List (Queues Request)
first_requests P net count = map (λ l. record { queues = replicate (lines P.k) empty; rule = request_rule P net l }) (below count)

abbrev pub first_replies : Project → Net → ℕ → List (Queues Reply)
first_replies P net count = map (λ l. record { queues = replicate (lines P.k) empty; rule = reply_rule P net l }) (below count)

abbrev pub first_network : Project → Net → Network
first_network P net = record { requests = first_requests P net (P.k + 2); replies = first_replies P net (P.k + 1); turns = replicate 6 0; back_turns = replicate 6 0 }

abbrev pub first_buffers : ℕ → Buffers
first_buffers k = record { entries = replicate (lines k) empty; once = 0; twice = 0 }

abbrev pub first_words : Project → ℕ → List (List Stored)
first_words P count = map (λ m. words_in P m P.words) (below count)

-- the row before the first cycle
abbrev pub first_row : Project → Arrays
first_row P = record {
  k = P.k;
  low = first_network P LowNet;
  comb = first_network P CombNet;
  buffers = replicate P.k (first_buffers P.k);
  procs = replicate (lines P.k) proc_start;
  words = first_words P (lines P.k);
  module_turns = 0;
  served = 0;
  rests = 0;
}
