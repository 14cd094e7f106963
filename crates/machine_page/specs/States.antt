-- A component's state as a page has it: fields with commas between.
use Rattle.std.specs.Prelude.{ℕ, Bool, true, false, List, [], ◌++◌, Option, None, Some, codes, decimal}
use Rattle.std.specs.List.{flat_map}
use Rattle.arrayvec.specs.ArrayVec.{ArrayVec}
use Rattle.omega_net.specs.declared.component.Net.TheVariants.{Low as LowNet, Comb as CombNet}
use Rattle.omega_net.specs.declared.message.Request.{Request}
use Rattle.omega_net.specs.declared.message.Reply.{Reply}
use Rattle.omega_net.specs.Ports.{message_at, queue_at}
use Rattle.omega_net.specs.Texts.{net_letter, tag_text}
use Rattle.ref_proc.specs.declared.state.Outgoing.{Outgoing}
use Rattle.ref_proc.specs.declared.state.ProcState.{ProcState}
use Rattle.mem_module.specs.declared.state.ModuleState.{ModuleState}
use Rattle.low_switch.specs.declared.state.LowState.{LowState}
use Rattle.comb_switch.specs.declared.waiting.Waiting.{Waiting}
use Rattle.comb_switch.specs.declared.state.CombState.{CombState}
use Rattle.machine_cells.specs.declared.state.MachineState.{MachineState}
use Rattle.machine_cells.specs.declared.state.MachineState.TheVariants.{Proc, Module, Low, Comb}
use Rattle.project_book.specs.Project.{Project}
use Rattle.run_reports.specs.declared.full_queues.Part.TheVariants.{Forward, Reverse, Requests, Replies, Wait}
use Rattle.run_reports.specs.FullQueues.{is_full}

-- the request that a processor shows, with the letter of its network, and the reference of a reply that it received
abbrev pub out_text : Option Outgoing → List ℕ
out_text None = []
out_text (Some o) = net_letter o.net ++ tag_text o.request.tag

abbrev pub got_text : Option Reply → List ℕ
got_text None = []
got_text (Some y) = tag_text y.tag

abbrev pub gots_text : List (Option Reply) → List ℕ
gots_text ys = got_text (message_at ys 0) ++ codes "," ++ got_text (message_at ys 1)

-- a processor: how many references it issued, how many of them aren't answered, what it shows, and the replies of both networks
abbrev pub proc_text : ProcState → List ℕ
proc_text s = decimal s.issued ++ codes "," ++ decimal s.pending ++ codes "," ++ out_text s.out ++ codes "," ++ gots_text s.got

-- the references of messages, each behind a space; of a wait entry the one that waits, and the one that it was combined into
abbrev pub request_tags : List Request → List ℕ
request_tags rs = flat_map (λ r. codes " " ++ tag_text r.tag) rs

abbrev pub reply_tags : List Reply → List ℕ
reply_tags ys = flat_map (λ y. codes " " ++ tag_text y.tag) ys

abbrev pub wait_tags : List Waiting → List ℕ
wait_tags ws = flat_map (λ w. codes " " ++ tag_text w.second ++ codes ">" ++ tag_text w.first) ws

-- a queue: its references, the one that has waited longest in front, and a mark where it is full
abbrev pub mark_text : Bool → List ℕ
mark_text false = []
mark_text true = codes "!"

abbrev pub requests_text : Bool → ArrayVec Request → List ℕ
requests_text full q = request_tags q.items ++ mark_text full

abbrev pub replies_text : Bool → ArrayVec Reply → List ℕ
replies_text full q = reply_tags q.items ++ mark_text full

abbrev pub wait_text : Bool → ArrayVec Waiting → List ℕ
wait_text full q = wait_tags q.items ++ mark_text full

-- two queues
abbrev pub request_pair : Bool → Bool → List (ArrayVec Request) → List ℕ
request_pair first second qs = requests_text first (queue_at qs 0) ++ codes "," ++ requests_text second (queue_at qs 1)

abbrev pub reply_pair : Bool → Bool → List (ArrayVec Reply) → List ℕ
reply_pair first second qs = replies_text first (queue_at qs 0) ++ codes "," ++ replies_text second (queue_at qs 1)

-- a low switch: the requests by output, the replies by input
abbrev pub low_text : Project → LowState → List ℕ
low_text P s =
    request_pair (is_full P (Forward 0) (Some (Low s))) (is_full P (Forward 1) (Some (Low s))) s.fwd
    ++ codes "," ++ reply_pair (is_full P (Reverse 0) (Some (Low s))) (is_full P (Reverse 1) (Some (Low s))) s.rev

-- a combining switch: these, and the wait buffer
abbrev pub comb_text : Project → CombState → List ℕ
comb_text P s =
    request_pair (is_full P (Forward 0) (Some (Comb s))) (is_full P (Forward 1) (Some (Comb s))) s.fwd
    ++ codes "," ++ reply_pair (is_full P (Reverse 0) (Some (Comb s))) (is_full P (Reverse 1) (Some (Comb s))) s.rev
    ++ codes "," ++ wait_text (is_full P Wait (Some (Comb s))) s.wait

-- a module: whether it served a request in the last step, the requests by network, the replies by network
abbrev pub served_text : Bool → List ℕ
served_text false = codes "0"
served_text true = codes "1"

abbrev pub module_text : Project → ModuleState → List ℕ
module_text P s =
    served_text s.served ++ codes ","
    ++ request_pair (is_full P (Requests LowNet) (Some (Module s))) (is_full P (Requests CombNet) (Some (Module s))) s.requests
    ++ codes "," ++ reply_pair (is_full P (Replies LowNet) (Some (Module s))) (is_full P (Replies CombNet) (Some (Module s))) s.replies

-- the state of a component
abbrev pub state_text : Project → Option MachineState → List ℕ
state_text P None = []
state_text P (Some (Proc s)) = proc_text s
state_text P (Some (Module s)) = module_text P s
state_text P (Some (Low s)) = low_text P s
state_text P (Some (Comb s)) = comb_text P s
