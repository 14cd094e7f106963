use Rattle.std.proofs.Common.{◌≡◌, ◌++◌, length}
use Rattle.std.specs.List.{list_all}
use Rattle.std.specs.Str.{is_utf8}
use Rattle.line_words.specs.Words.{words_of}
use Rattle.lab_tasks.specs.Words.{texts_of}
use Rattle.lab_tasks.proofs.shell_report.add_texts.Given as goal

abbrev pub invariant-words : goal.invariant-words
invariant-words l = record {
  texts : texts_of l.texts.items ++ words_of l.rest ≡ texts_of l.initial.texts.items ++ words_of l.words;
  utf8 : list_all is_utf8 (words_of l.words) ≡ list_all is_utf8 (words_of l.rest);
}

abbrev pub decreases-words : goal.decreases-words
decreases-words l = length (words_of l.rest)
