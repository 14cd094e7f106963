-- How long the words of queues are, and that they are those of a component.
use Rattle.std.proofs.Common.{◌≡◌, ℕ, ◌+◌, ◌*◌, List, [], length, arith}
use Rattle.omega_net.specs.declared.message.Request.{Request}
use Rattle.omega_net.specs.declared.message.Reply.{Reply}
use Rattle.comb_switch.specs.declared.waiting.Waiting.{Waiting}
use Rattle.state_words.specs.Messages.{request_first, request_second, reply_first, reply_second, wait_first, wait_second, message_words}
use Rattle.state_words.proofs.Measuring.{messages_long}
use Rattle.flat_row.specs.Parts.{parts_body}

pub parts_long : (a b : List Request) (c d : List Reply) (e : List Waiting)
    → length (parts_body a b c d e) ≡ 2 * (length a + length b + length c + length d + length e)
parts_long a b c d e =
    let fifth = message_words wait_first wait_second e [] in
    let fourth = message_words reply_first reply_second d fifth in
    let third = message_words reply_first reply_second c fourth in
    let second = message_words request_first request_second b third in
    sums _ _ _ _ _ _ _ _ _ _ (messages_long request_first request_second a second) (messages_long request_first request_second b third)
    (messages_long reply_first reply_second c fourth) (messages_long reply_first reply_second d fifth) (messages_long wait_first wait_second e [])
  where
    sums : (n m k j i a b c d e : ℕ) → n ≡ 2 * a + m → m ≡ 2 * b + k → k ≡ 2 * c + j → j ≡ 2 * d + i → i ≡ 2 * e + 0 → n ≡ 2 * (a + b + c + d + e)
    sums n m k j i a b c d e p q r s t = omega (arith, p, q, r, s, t)
