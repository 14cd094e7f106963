-- How a processor's state prints.
use Rattle.std.specs.Prelude.{ℕ, Bool, true, false, List, ◌++◌, Option, None, Some, codes, decimal}
use Rattle.omega_net.specs.declared.component.Net.{Net}
use Rattle.omega_net.specs.declared.component.Net.TheVariants.{Low, Comb}
use Rattle.omega_net.specs.declared.message.Reply.{Reply}
use Rattle.omega_net.specs.Ports.{message_at}
use Rattle.omega_net.specs.Texts.{request_text}
use Rattle.ref_proc.specs.declared.state.Outgoing.{Outgoing}
use Rattle.ref_proc.specs.declared.state.ProcState.{ProcState}

-- a network, before a request on its way to it
abbrev pub toward_text : Net → List ℕ
toward_text Low = codes "low:"
toward_text Comb = codes "comb:"

-- the request that waits: `low:` or `comb:` and the request, or `-`
abbrev pub out_text : Option Outgoing → List ℕ
out_text None = codes "-"
out_text (Some o) = toward_text o.net ++ request_text o.request

-- a reply received: the issue number and the word, `I=W`, or `-`
abbrev pub got_text : Option Reply → List ℕ
got_text None = codes "-"
got_text (Some r) = decimal r.tag.issue ++ codes "=" ++ decimal r.word

-- whether something is so: 0 or 1
abbrev pub flag_text : Bool → List ℕ
flag_text true = codes "1"
flag_text false = codes "0"

-- where a processor is, and what it holds
abbrev pub counts_text : ProcState → List ℕ
counts_text s =
    codes "index " ++ decimal s.index ++ codes " spent " ++ decimal s.spent ++ codes " issued " ++ decimal s.issued ++ codes " pending " ++ decimal s.pending

abbrev pub held_text : ProcState → List ℕ
held_text s =
    codes "out " ++ out_text s.out ++ codes " got " ++ got_text (message_at s.got 0) ++ codes " " ++ got_text (message_at s.got 1) ++ codes " sent " ++ flag_text s.sent

-- a processor: `proc index A spent B issued I pending O out X got G G sent S`
abbrev pub proc_text : ProcState → List ℕ
proc_text s = codes "proc " ++ counts_text s ++ codes " " ++ held_text s
