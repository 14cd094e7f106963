use Rattle.std.proofs.Common.{◌∙◌, ap, sym, Bor, List, ℕ, Option, option_copied}
use Rattle.std.proofs.lemmas.List.{get_or-replicate}
use Rattle.page_map.specs.Limits.{page_words}
use Rattle.project_book.specs.FirstWords.{word_on}
use Rattle.project_book.proofs.pages.copied.Goals as goal

pub returns-in-None : goal.returns-in-None
returns-in-None c = λ o l. get_or-replicate page_words o 0 0 l ∙ sym (ap (λ (p : Option (Bor (List ℕ))). word_on (option_copied p) o) c.in-None.is)
