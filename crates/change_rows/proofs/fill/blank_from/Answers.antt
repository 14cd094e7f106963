use Rattle.std.proofs.Common.{◌≡◌, ◌∙◌, sym, ap, arith, length, List, []}
use Rattle.std.proofs.lemmas.List.{get_or_default}
use Rattle.change_rows.specs.Cells.{Held, found}
use Rattle.change_rows.specs.Changes.{row_at}
use Rattle.change_rows.proofs.Filling.{blank_seam}
use Rattle.change_rows.proofs.fill.blank_from.Goals as goal

pub returns-then-len-s-clause-found : goal.returns-then-len-s-clause-found
returns-then-len-s-clause-found c = λ d h.
    let s = c.args.s.now in
    let row : row_at s.rows.items c.args.t ≡ [] = sym (get_or_default s.rows.items c.args.t c.index.result.now [] c.requires.row) ∙ sym c.index.ensures ∙ c.is_empty.ensures c.if-is_empty.true in
    let few : length s.seam ≡ s.width = omega (arith, c.len.ensures.count, c.if-len-s.true) in
    let here : s.at ≡ c.args.t = omega (arith, c.if-s-t.true) in
    ap (λ (v : List Held). found v d) c.in_ok-assign.ensures
    ∙ blank_seam s.rows.items s.seam s.at c.args.t s.width d c.len.ensures.ascending few c.requires.changes.seam_wide here row (c.requires.none d h) h
