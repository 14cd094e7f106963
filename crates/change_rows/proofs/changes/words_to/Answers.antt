use Rattle.std.proofs.Common.{◌≡◌, ◌<◌, ◌∙◌, sym, ap, arith, length, List, []}
use Rattle.std.proofs.lemmas.List.{get_or_default}
use Rattle.change_rows.specs.Cells.{Held, found}
use Rattle.change_rows.specs.Changes.{row_at, begins_at}
use Rattle.change_rows.proofs.Standing.{at_once, begins_row}
use Rattle.change_rows.proofs.changes.words_to.Goals as goal

pub returns-in-Some-clause-words : goal.returns-in-Some-clause-words
returns-in-Some-clause-words c =
    let s = c.args.s.now in
    let here : c.args.t < length s.rows.items = omega (arith, c.requires.before, c.requires.end) in
    let row : row_at s.rows.items c.args.t ≡ c.index.result.now = sym (get_or_default s.rows.items c.args.t c.index.result.now [] here) ∙ sym c.index.ensures in
    sym (at_once (begins_at s.rows.items s.seam s.at c.args.c) c.args.t c.in-Some.words.now (begins_row s.rows.items s.seam s.at c.args.c c.args.t c.in-Some.words.now (ap (λ (r : List Held). found r c.args.c) row ∙ c.in-Some.ensures)))
