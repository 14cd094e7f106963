-- How a combining switch prints.
use Rattle.std.specs.Prelude.{ℕ, List, ◌++◌, Option, Some, codes, decimal, slice_index}
use Rattle.std.specs.Fmt.{◌++?◌}
use Rattle.word_ops.specs.Words.{op_text}
use Rattle.omega_net.specs.Ports.{queue_at}
use Rattle.omega_net.specs.Texts.{listed_text, tag_text, request_text, reply_text}
use Rattle.comb_switch.specs.declared.waiting.Waiting.{Waiting}
use Rattle.comb_switch.specs.declared.state.CombState.{CombState}

-- a wait entry: `P.I=KIND:V<P.I`
abbrev pub waiting_text : Waiting → List ℕ
waiting_text w = tag_text w.first ++ codes "=" ++ op_text w.op ++ codes "<" ++ tag_text w.second

-- the requests that wait, and their turns
abbrev pub comb_forward_text : CombState → Option (List ℕ)
comb_forward_text s =
    Some (codes "comb f0 ") ++? listed_text (λ r. Some (request_text r)) (queue_at s.fwd 0).items
    ++? Some (codes " f1 ") ++? listed_text (λ r. Some (request_text r)) (queue_at s.fwd 1).items
    ++? Some (codes " turn " ++ decimal (slice_index s.turn 0) ++ codes " " ++ decimal (slice_index s.turn 1))

-- the replies that wait, and the turn
abbrev pub comb_reverse_text : CombState → Option (List ℕ)
comb_reverse_text s =
    Some (codes " r0 ") ++? listed_text (λ y. Some (reply_text y)) (queue_at s.rev 0).items
    ++? Some (codes " r1 ") ++? listed_text (λ y. Some (reply_text y)) (queue_at s.rev 1).items
    ++? Some (codes " rturn " ++ decimal s.rturn)

-- `comb f0 L f1 L turn T T r0 L r1 L rturn T wait L combined N`
abbrev pub comb_text : CombState → Option (List ℕ)
comb_text s =
    comb_forward_text s ++? comb_reverse_text s
    ++? Some (codes " wait ") ++? listed_text (λ w. Some (waiting_text w)) s.wait.items ++? Some (codes " combined " ++ decimal s.combined)
