use Rattle.std.proofs.Common.{◌≡◌, ℕ, ◌+◌, ◌<◌, length, slice_index_or}
use Rattle.page_map.specs.Limits.{page_words}
use Rattle.project_book.specs.FirstWords.{word_at}
use Rattle.project_book.proofs.words.words_from.Given as goal

abbrev pub invariant-loop-offset : goal.invariant-loop-offset
invariant-loop-offset l = (length l.words ≡ page_words) × ((o : ℕ) → o < l.offset → slice_index_or l.words o 0 ≡ word_at l.listing (l.from + o))
