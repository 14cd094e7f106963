use Rattle.std.proofs.Common.{◌≡◌, ◌↔◌, ℕ, List, drop, Some}
use Rattle.std.specs.Option.{option_copied}
use Rattle.state_words.specs.Messages.{message_words}
use Rattle.state_words.proofs.comparing.past_messages.Given as goal

-- behind what is passed stands what is left exactly where all of it stands behind the first words
abbrev pub invariant-loop-i : goal.invariant-loop-i
invariant-loop-i g l =
    let first = g.T.TwoWords.first in
    let second = g.T.TwoWords.second in
    (rest : List ℕ) → (option_copied l.words ≡ Some (message_words first second l.messages rest)) ↔ (option_copied l.left ≡ Some (message_words first second (drop l.i l.messages) rest))
