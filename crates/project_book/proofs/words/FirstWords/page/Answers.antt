use Rattle.std.proofs.Common.{◌∙◌, ap, map, option_map, List, ℕ, Option}
use Rattle.std.specs.Arc.{arc_value}
use Rattle.project_book.specs.FirstWords.{word_on}
use Rattle.project_book.proofs.Paging.{page_shows}
use Rattle.project_book.proofs.words.FirstWords.page.Goals as goal

pub returns : goal.returns
returns c = λ o l.
    let pages = map (option_map arc_value) c.self.inside.pages.items in
    ap (λ (p : Option (List ℕ)). word_on p o) c.page_at.ensures
    ∙ rw (c.deref.ensures.value, ← c.self.view_is) (page_shows pages c.args.page o c.requires l)
