use Rattle.std.proofs.Common.{◌∙◌, ap, map, option_map, arith, List, ℕ, Option, Some, cond, ◌==◌, ◌%◌}
use Rattle.std.specs.Arc.{arc_value}
use Rattle.page_map.specs.Limits.{page_words}
use Rattle.project_book.specs.FirstWords.{word_on}
use Rattle.project_book.proofs.Sharing.{among_set}
use Rattle.project_book.proofs.pages.with_word.Goals as goal

pub returns : goal.returns
returns c = λ a h.
    among_set (option_map arc_value) c.in_ok-edited.edited.items (Some c.in_ok-owner.owner) (map (option_map arc_value) c.args.pages.now) c.edited-words.result c.args.address c.args.word
    (omega (arith, c.in_ok-edited.ensures.many)) (ap (λ (ws : List ℕ). Some ws) c.in_ok-owner.ensures.ok)
    (λ o l. c.edited-words.ensures o l ∙ ap (λ (p : Option (List ℕ)). cond (o == c.args.address % page_words) c.args.word (word_on p o)) c.page_at.ensures)
    c.in_ok-edited.ensures.same a
