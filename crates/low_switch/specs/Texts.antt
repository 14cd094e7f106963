-- How a low switch prints.
use Rattle.std.specs.Prelude.{ℕ, List, ◌++◌, Option, Some, codes, decimal, slice_index}
use Rattle.std.specs.Fmt.{◌++?◌}
use Rattle.omega_net.specs.Ports.{queue_at}
use Rattle.omega_net.specs.Texts.{listed_text, request_text, reply_text}
use Rattle.low_switch.specs.declared.state.LowState.{LowState}

-- the requests that wait, and their turns
abbrev pub low_forward_text : LowState → Option (List ℕ)
low_forward_text s =
    Some (codes "low f0 ") ++? listed_text (λ r. Some (request_text r)) (queue_at s.fwd 0).items
    ++? Some (codes " f1 ") ++? listed_text (λ r. Some (request_text r)) (queue_at s.fwd 1).items
    ++? Some (codes " turn " ++ decimal (slice_index s.turn 0) ++ codes " " ++ decimal (slice_index s.turn 1))

-- the replies that wait, and theirs
abbrev pub low_reverse_text : LowState → Option (List ℕ)
low_reverse_text s =
    Some (codes " r0 ") ++? listed_text (λ y. Some (reply_text y)) (queue_at s.rev 0).items
    ++? Some (codes " r1 ") ++? listed_text (λ y. Some (reply_text y)) (queue_at s.rev 1).items
    ++? Some (codes " rturn " ++ decimal (slice_index s.rturn 0) ++ codes " " ++ decimal (slice_index s.rturn 1))

-- `low f0 L f1 L turn T T r0 L r1 L rturn T T`
abbrev pub low_text : LowState → Option (List ℕ)
low_text s = low_forward_text s ++? low_reverse_text s
