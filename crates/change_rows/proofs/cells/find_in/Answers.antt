use Rattle.std.proofs.Common.{◌≡◌, ◌<◌, ◌∙◌, ap, sym, length, Some}
use Rattle.std.proofs.lemmas.Bool.{false≢true}
use Rattle.change_rows.specs.Packed.{head_at}
use Rattle.change_rows.proofs.Packing.{pairs_ascend, found_here, found_nowhere, at_cells}
use Rattle.change_rows.specs.Cells.{Held, no_cell}
use Rattle.change_rows.proofs.cells.find_in.Goals as goal

pub place_in-place-requires : goal.place_in-place-requires
place_in-place-requires c = pairs_ascend c.args.heads.now c.args.words.now c.requires

pub returns-then-is_at : goal.returns-then-is_at
returns-then-is_at c =
    let heads = c.args.heads.now in
    let words = c.args.words.now in
    let n = c.place_in-place.result in
    let here : (n < length heads) × ((head_at heads 0 n).component ≡ c.args.c) = c.is_at.ensures.0 c.if-is_at.true in
    ap Some (c.words_in.ensures ∙ sym (ap (λ (x : Held). x.words) (at_cells heads words n no_cell here.0)))
    ∙ sym (found_here heads words c.args.c n c.requires c.place_in-place.ensures here.0 here.1)

pub returns-else-is_at : goal.returns-else-is_at
returns-else-is_at c =
    sym (found_nowhere c.args.heads.now c.args.words.now c.args.c c.place_in-place.result c.place_in-place.ensures (λ h e. false≢true (sym c.if-is_at.false ∙ c.is_at.ensures.1 (h, e))) c.requires)
