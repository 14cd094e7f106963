use Rattle.std.proofs.Common.{◌≡◌, ◌++◌, length}
use Rattle.line_words.specs.Words.{words_of}
use Rattle.lab_shell.specs.Ranges.{spaced}
use Rattle.lab_shell.proofs.range.spaced.Given as goal

abbrev pub invariant-words : goal.invariant-words
invariant-words l = l.text.items ++ spaced (words_of l.rest) ≡ spaced (words_of l.words)

abbrev pub decreases-words : goal.decreases-words
decreases-words l = length (words_of l.rest)
