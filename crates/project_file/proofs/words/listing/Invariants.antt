use Rattle.std.proofs.Common.{◌≡◌, ◌++◌, drop}
use Rattle.project_file.specs.Words.{words_from}
use Rattle.project_file.proofs.words.listing.Given as goal

abbrev pub invariant-loop-word : goal.invariant-loop-word
invariant-loop-word l = record {
  at : l.address ≡ l.word-index;
  left : words_from 0 l.memory ≡ l.words.items ++ words_from l.word-index (drop l.word-index l.memory);
}
