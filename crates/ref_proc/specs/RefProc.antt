-- A processor: what it shows and takes, and its step (this project's machine: one entry of the script acts in a step).
use Rattle.std.specs.Prelude.{ℕ, ◌+◌, ◌-◌, ◌^◌, ◌==◌, ◌&&◌, ◌||◌, not, nat_lt, nat_le, min, Bool, true, false, if◌then◌else◌, [], ◌∷◌, Option, None, Some, is_none}
use Rattle.word_ops.specs.declared.op.Op.{Op}
use Rattle.omega_net.specs.declared.component.Net.{Net}
use Rattle.omega_net.specs.declared.component.Net.TheVariants.{Low, Comb}
use Rattle.omega_net.specs.declared.message.Request.{Request}
use Rattle.omega_net.specs.declared.message.Reply.{Reply}
use Rattle.omega_net.specs.declared.script.ScriptEntry.{ScriptEntry}
use Rattle.omega_net.specs.declared.script.ScriptEntry.TheVariants.{Reference, Until, Fence, Idle}
use Rattle.omega_net.specs.Wires.{net_number}
use Rattle.omega_net.specs.Ports.{message_at}
use Rattle.ref_proc.specs.declared.state.Outgoing.{Outgoing}
use Rattle.ref_proc.specs.declared.state.ProcState.{ProcState}
use Rattle.ref_proc.specs.declared.step.ProcSettings.{ProcSettings}
use Rattle.ref_proc.specs.declared.step.ProcTraffic.{ProcTraffic}

-- the first state: at the first entry, with nothing issued or received
abbrev pub proc_start : ProcState
proc_start = record { index = 0; spent = 0; issued = 0; pending = 0; out = None; got = None ∷ None ∷ []; sent = false }

-- the request that it shows on a network
abbrev pub out_on : Option Outgoing → Net → Option Request
out_on None net = None
out_on (Some o) net = if net_number o.net == net_number net then Some o.request else None

abbrev pub proc_request : ProcState → Net → Option Request
proc_request s net = out_on s.out net

-- it is ready for every reply
abbrev pub proc_takes_reply : ProcState → Net → Bool
proc_takes_reply s net = true

-- one more, up to the last value of its type
abbrev pub one_more : ℕ → ℕ → ℕ
one_more last n = min (n + 1) last

-- how many replies a network brought
abbrev pub count_in : Option Reply → ℕ
count_in None = 0
count_in (Some _) = 1

-- first the replies are taken, and the request leaves where it can
abbrev pub taking : ProcTraffic → ProcState → ProcState
taking t s = record s {
  got = message_at t.replies 0 ∷ message_at t.replies 1 ∷ [];
  pending = s.pending - (count_in (message_at t.replies 0) + count_in (message_at t.replies 1));
  out = if t.request_leaves then None else s.out;
  sent = false;
}

-- on to the next entry
abbrev pub next_entry : ProcState → ProcState
next_entry s = record s { index = one_more (2 ^ 16 - 1) s.index; spent = 0 }

-- on, where so many turns were spent on this one
abbrev pub on_after : ℕ → ProcState → ProcState
on_after turns s = if nat_le turns s.spent then next_entry s else s

-- the network of an entry
abbrev pub net_for : Bool → Net
net_for true = Comb
net_for false = Low

-- one more turn spent on the entry
abbrev pub spending : ProcState → ProcState
spending s = record s { spent = one_more (2 ^ 32 - 1) s.spent }

-- a reference issued: its request waits to leave, under the next issue number
abbrev pub issuing : ProcSettings → Bool → Op → ProcState → ProcState
issuing settings sync op s = record (spending s) {
  out = Some (record {
    net = net_for sync;
    request = record { tag = record { proc = settings.proc; issue = s.issued }; place = settings.place; op = op };
  });
  issued = one_more (2 ^ 32 - 1) s.issued;
  pending = one_more (2 ^ 32 - 1) s.pending;
  sent = true;
}

-- a reference is issued where no request waits and fewer than the window are pending
abbrev pub referring : ProcSettings → Bool → Op → ProcState → ProcState
referring settings sync op s =
    if is_none s.out && nat_lt s.pending settings.window then issuing settings sync op s else s

-- whether this is a reply to the reference issued last, and one with this word
abbrev pub answers_last : ℕ → Option Reply → Bool
answers_last issued None = false
answers_last issued (Some r) = r.tag.issue + 1 == issued

abbrev pub brings : ℕ → ℕ → Option Reply → Bool
brings issued value None = false
brings issued value (Some r) = (r.tag.issue + 1 == issued) && (r.word == value)

-- whether such a reply was received in this step
abbrev pub is_answered : ProcState → Bool
is_answered s = answers_last s.issued (message_at s.got 0) || answers_last s.issued (message_at s.got 1)

abbrev pub has_brought : ℕ → ProcState → Bool
has_brought value s = brings s.issued value (message_at s.got 0) || brings s.issued value (message_at s.got 1)

-- whether an entry that waits for a word tries: at first, and again once it was answered another word, up to its times
abbrev pub tries : ℕ → ℕ → ProcState → Bool
tries value times s = (s.spent == 0) || (nat_lt s.spent times && (is_answered s && not (has_brought value s)))

-- an entry that waits for a word goes on where that came, or where it has tried its times
abbrev pub trying : ProcSettings → Bool → Op → ℕ → ℕ → ProcState → ProcState
trying settings sync op value times s =
    if tries value times s then referring settings sync op s
    else (if has_brought value s || nat_le times s.spent then next_entry s else s)

-- a fence is passed where every reference was answered
abbrev pub fencing : ProcState → ProcState
fencing s = if (s.pending == 0) && is_none s.out then next_entry s else s

-- then the entry acts, if there is one
abbrev pub acting : ProcSettings → Option ScriptEntry → ProcState → ProcState
acting settings None s = s
acting settings (Some (Reference sync op address times)) s = on_after times (referring settings sync op s)
acting settings (Some (Until sync op address value times)) s = trying settings sync op value times s
acting settings (Some Fence) s = fencing s
acting settings (Some (Idle turns)) s = on_after turns (spending s)

-- the state one cycle later
abbrev pub proc_after : ProcSettings → ProcTraffic → ProcState → ProcState
proc_after settings t s = acting settings settings.entry (taking t s)
