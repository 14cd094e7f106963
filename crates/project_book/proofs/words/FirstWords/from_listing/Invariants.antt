use Rattle.std.proofs.Common.{◌≡◌, ℕ, ◌+◌, ◌*◌, ◌<◌, map, length, option_map, slice_index_or, None}
use Rattle.std.specs.Arc.{arc_value}
use Rattle.page_map.specs.Limits.{page_words}
use Rattle.project_book.specs.FirstWords.{word_on, word_at}
use Rattle.project_book.proofs.words.FirstWords.from_listing.Given as goal

abbrev pub invariant-loop-page : goal.invariant-loop-page
invariant-loop-page l = record {
  many : length l.pages.items ≡ l.page;
  same : (g o : ℕ) → g < l.page → o < page_words → word_on (slice_index_or (map (option_map arc_value) l.pages.items) g None) o ≡ word_at l.listing.items (page_words * g + o);
}
