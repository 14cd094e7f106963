use Rattle.std.proofs.Common.{◌≡◌, length}
use Rattle.line_words.specs.Words.{words_of}
use Rattle.lab_shell.specs.Hints.{slip_in}
use Rattle.lab_shell.proofs.hint.slip_in.Given as goal

abbrev pub invariant-words : goal.invariant-words
invariant-words l = slip_in (words_of l.names) (words_of l.rest) ≡ slip_in (words_of l.names) (words_of l.line)

abbrev pub decreases-words : goal.decreases-words
decreases-words l = length (words_of l.rest)
