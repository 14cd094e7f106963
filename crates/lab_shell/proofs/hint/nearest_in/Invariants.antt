use Rattle.std.proofs.Common.{◌≡◌, None, length}
use Rattle.std.specs.Prelude.{option_map}
use Rattle.line_words.specs.Words.{words_of}
use Rattle.lab_shell.specs.Hints.{nearest_from, too_many}
use Rattle.lab_shell.proofs.hint.nearest_in.Given as goal

abbrev pub invariant-names : goal.invariant-names
invariant-names l =
    nearest_from (option_map (λ n. n.now) l.found) l.least l.word (words_of l.rest) ≡ nearest_from None (too_many l.word) l.word (words_of l.names)

abbrev pub decreases-names : goal.decreases-names
decreases-names l = length (words_of l.rest)
