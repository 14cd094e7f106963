use Rattle.std.proofs.Common.{◌≡◌, ◌<◌, ◌^◌, drop}
use Rattle.line_words.specs.Numbers.{value_after}
use Rattle.line_words.proofs.numbers.digits_value.Given as goal

abbrev pub invariant-loop-digit : goal.invariant-loop-digit
invariant-loop-digit l = (value_after l.value (drop l.digit-index l.word) ≡ value_after 0 l.word) × (l.value < 10 ^ l.digit-index)
