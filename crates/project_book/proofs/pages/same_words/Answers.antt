use Rattle.std.proofs.Common.{◌∙◌, ap, sym, map, option_map, List, ℕ, Option, arith, refl}
use Rattle.std.specs.Arc.{arc_value}
use Rattle.std.proofs.lemmas.Bool.{false≢true}
use Rattle.project_book.specs.FirstWords.{word_on}
use Rattle.project_book.proofs.Sharing.{alike_page, more_pages}
use Rattle.project_book.proofs.pages.same_words.Goals as goal

pub returns-then-not-same_page : goal.returns-then-not-same_page
returns-then-not-same_page c =
    let P = map (option_map arc_value) c.args.pages.now in
    let Q = map (option_map arc_value) c.args.others.now in (
      λ t. absurd (false≢true t),
      λ same. c.if-not-same_page.ensures.1 (λ o l.
          ap (λ (p : Option (List ℕ)). word_on p o) c.page_at.ensures
          ∙ alike_page P Q c.loop-page.page (omega (arith, c.loop-page-test.true)) same o l
          ∙ sym (ap (λ (p : Option (List ℕ)). word_on p o) c.page_at-in-loop-page.ensures)),
    )

pub loop-page-preserved : goal.loop-page-preserved
loop-page-preserved c =
    more_pages (map (option_map arc_value) c.args.pages.now) (map (option_map arc_value) c.args.others.now) c.loop-page.page _ _ c.page_at.ensures c.page_at-in-loop-page.ensures (c.if-not-same_page.ensures.0 refl) c.loop-page.invariant
