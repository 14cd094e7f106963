use Rattle.std.proofs.Common.{◌≡◌, ℕ, ◌<◌, map, option_map, slice_index_or, None}
use Rattle.std.specs.Arc.{arc_value}
use Rattle.page_map.specs.Limits.{page_words}
use Rattle.project_book.specs.FirstWords.{word_on}
use Rattle.project_book.proofs.pages.same_words.Given as goal

abbrev pub invariant-loop-page : goal.invariant-loop-page
invariant-loop-page l = (g o : ℕ) → g < l.page → o < page_words → word_on (slice_index_or (map (option_map arc_value) l.pages) g None) o ≡ word_on (slice_index_or (map (option_map arc_value) l.others) g None) o
