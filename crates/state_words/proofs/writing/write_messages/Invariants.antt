use Rattle.std.proofs.Common.{◌≡◌, ℕ, ◌+◌, ◌*◌, ◌++◌, List, drop, vec_len, vec_capacity}
use Rattle.state_words.specs.Messages.{message_words}
use Rattle.state_words.proofs.writing.write_messages.Given as goal

-- what is written and what is left are all
abbrev pub invariant-loop-i : goal.invariant-loop-i
invariant-loop-i g l =
    let first = g.T.TwoWords.first in
    let second = g.T.TwoWords.second in
    record {
      items : (rest : List ℕ) → l.words.items ++ message_words first second (drop l.i l.messages) rest ≡ l.initial.words.items ++ message_words first second l.messages rest;
      len : vec_len l.words ≡ vec_len l.initial.words + 2 * l.i;
      capacity : vec_capacity l.words ≡ vec_capacity l.initial.words;
    }
