-- The words of what has up to five queues, by the messages that wait in each.
use Rattle.std.specs.Prelude.{ℕ, List, [], ◌∷◌, length}
use Rattle.omega_net.specs.declared.message.Request.{Request}
use Rattle.omega_net.specs.declared.message.Reply.{Reply}
use Rattle.comb_switch.specs.declared.waiting.Waiting.{Waiting}
use Rattle.state_words.specs.Messages.{request_first, request_second, reply_first, reply_second, wait_first, wait_second, message_words}
use Rattle.state_words.specs.Words.{queues_head}

-- what follows the head: requests at both ports, replies at both, and the entries of a wait buffer
abbrev pub parts_body : List Request → List Request → List Reply → List Reply → List Waiting → List ℕ
parts_body a b c d e =
    message_words request_first request_second a (message_words request_first request_second b
    (message_words reply_first reply_second c (message_words reply_first reply_second d (message_words wait_first wait_second e []))))

-- the words of a kind with these queues, and with what is small
abbrev pub parts_words : ℕ → List Request → List Request → List Reply → List Reply → List Waiting → ℕ → List ℕ
parts_words kind a b c d e small = queues_head kind (length a) (length b) (length c) (length d) (length e) small ∷ parts_body a b c d e
