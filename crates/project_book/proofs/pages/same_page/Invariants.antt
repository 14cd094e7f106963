use Rattle.std.proofs.Common.{◌≡◌, ℕ, ◌<◌, option_copied}
use Rattle.project_book.specs.FirstWords.{word_on}
use Rattle.project_book.proofs.pages.same_page.Given as goal

abbrev pub invariant-loop-offset : goal.invariant-loop-offset
invariant-loop-offset l = (o : ℕ) → o < l.offset → word_on (option_copied l.page) o ≡ word_on (option_copied l.other) o
