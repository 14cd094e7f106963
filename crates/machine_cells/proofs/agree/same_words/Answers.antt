use Rattle.std.proofs.Common.{sym, ◌∙◌}
use Rattle.machine_cells.proofs.FirstListings.{same_first_words, words_along}
use Rattle.machine_cells.proofs.agree.same_words.Goals as goal

pub returns : goal.returns
returns c =
    let a = c.args.a.now in
    let b = c.args.b.now in (
      λ t. words_along a b (sym c.words.ensures.words ∙ c.same.ensures.0 t ∙ c.words-2.ensures.words),
      λ h. c.same.ensures.1 (c.words.ensures.words ∙ same_first_words a b c.words.ensures.listing c.words-2.ensures.listing h ∙ sym c.words-2.ensures.words),
    )
