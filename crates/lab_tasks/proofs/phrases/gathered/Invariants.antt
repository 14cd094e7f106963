use Rattle.std.proofs.Common.{◌≡◌, ◌++◌, length}
use Rattle.std.specs.List.{list_all}
use Rattle.std.specs.Str.{is_utf8}
use Rattle.line_words.specs.Words.{words_of}
use Rattle.lab_tasks.specs.Phrases.{gathered}
use Rattle.lab_tasks.proofs.phrases.gathered.Given as goal

abbrev pub invariant-words : goal.invariant-words
invariant-words l = record {
  texts : l.texts.items ++ gathered l.text (words_of l.rest) ≡ gathered l.first (words_of l.words);
  utf8 : list_all is_utf8 (words_of l.words) ≡ list_all is_utf8 (words_of l.rest);
}

abbrev pub decreases-words : goal.decreases-words
decreases-words l = length (words_of l.rest)
