-- The two words of a message, and the message that two words are. A field that begins at bit a is 2 ^ a times its number; so of a word w
-- it is w / 2 ^ a % 2 ^ b, where it has b bits.
use Rattle.std.specs.Prelude.{ℕ, ◌+◌, ◌*◌, ◌/◌, ◌%◌, ◌^◌, ◌==◌, if◌then◌else◌, List, [], ◌∷◌}
use Rattle.word_ops.specs.Words.{kind_bits, kind_number, kind_of_number}
use Rattle.omega_net.specs.declared.component.Net.{Net}
use Rattle.omega_net.specs.declared.component.Net.TheVariants.{Low, Comb}
use Rattle.omega_net.specs.declared.message.Request.{Request}
use Rattle.omega_net.specs.declared.message.Reply.{Reply}
use Rattle.omega_net.specs.Wires.{net_number}
use Rattle.ref_proc.specs.declared.state.Outgoing.{Outgoing}
use Rattle.comb_switch.specs.declared.waiting.Waiting.{Waiting}

-- a request: processor, module, row and operand; then issue and kind
abbrev pub request_first : Request → ℕ
request_first r = r.tag.proc + 2 ^ 8 * r.place.«module» + 2 ^ 16 * r.place.row + 2 ^ 32 * r.op.operand

abbrev pub request_second : Request → ℕ
request_second r = r.tag.issue + 2 ^ 32 * kind_number r.op.kind

-- a request on its way out: the same, and its network
abbrev pub out_first : Outgoing → ℕ
out_first o = request_first o.request

abbrev pub out_second : Outgoing → ℕ
out_second o = request_second o.request + 2 ^ (32 + kind_bits) * net_number o.net

-- a reply: issue and word; then processor
abbrev pub reply_first : Reply → ℕ
reply_first r = r.tag.issue + 2 ^ 32 * r.word

abbrev pub reply_second : Reply → ℕ
reply_second r = r.tag.proc

-- an entry of a wait buffer: the first issue and the operand; then the second issue, both processors and the kind
abbrev pub wait_first : Waiting → ℕ
wait_first w = w.first.issue + 2 ^ 32 * w.op.operand

abbrev pub wait_second : Waiting → ℕ
wait_second w = w.second.issue + 2 ^ 32 * w.first.proc + 2 ^ 40 * w.second.proc + 2 ^ 48 * kind_number w.op.kind

-- the words of messages in their order, and what follows them
abbrev pub message_words : {T : Type 0} → (T → ℕ) → (T → ℕ) → List T → List ℕ → List ℕ
message_words first second [] rest = rest
message_words first second (m ∷ ms) rest = first m ∷ second m ∷ message_words first second ms rest

-- the network of a number
abbrev pub net_from : ℕ → Net
net_from n = if n == 0 then Low else Comb

-- the messages that two words are
abbrev pub request_from : ℕ → ℕ → Request
request_from a b = record {
  tag = record { proc = a % 2 ^ 8; issue = b % 2 ^ 32 };
  place = record { «module» = a / 2 ^ 8 % 2 ^ 8; row = a / 2 ^ 16 % 2 ^ 16 };
  op = record { kind = kind_of_number (b / 2 ^ 32 % 2 ^ kind_bits); operand = a / 2 ^ 32 };
}

abbrev pub out_from : ℕ → ℕ → Outgoing
out_from a b = record { net = net_from (b / 2 ^ (32 + kind_bits) % 2); request = request_from a b }

abbrev pub reply_from : ℕ → ℕ → Reply
reply_from a b = record { tag = record { proc = b % 2 ^ 8; issue = a % 2 ^ 32 }; word = a / 2 ^ 32 }

abbrev pub wait_from : ℕ → ℕ → Waiting
wait_from a b = record {
  first = record { proc = b / 2 ^ 32 % 2 ^ 8; issue = a % 2 ^ 32 };
  op = record { kind = kind_of_number (b / 2 ^ 48 % 2 ^ kind_bits); operand = a / 2 ^ 32 };
  second = record { proc = b / 2 ^ 40 % 2 ^ 8; issue = b % 2 ^ 32 };
}
