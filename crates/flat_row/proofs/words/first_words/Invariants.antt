use Rattle.std.proofs.Common.{◌≡◌}
use Rattle.flat_row.specs.Row.{first_words}
use Rattle.flat_row.proofs.words.first_words.Given as goal

abbrev pub invariant-loop-m : goal.invariant-loop-m
invariant-loop-m l = l.words.items ≡ first_words l.project l.m
