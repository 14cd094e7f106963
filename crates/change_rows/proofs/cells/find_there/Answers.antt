use Rattle.std.proofs.Common.{◌≡◌, ◌<◌, ◌∙◌, ap, sym, length, Some}
use Rattle.change_rows.specs.Packed.{head_at}
use Rattle.change_rows.proofs.Packing.{found_here, place_here, at_cells}
use Rattle.change_rows.specs.Cells.{Held, no_cell}
use Rattle.change_rows.proofs.cells.find_there.Goals as goal

pub returns-then-is_at : goal.returns-then-is_at
returns-then-is_at c =
    let heads = c.args.heads.now in
    let words = c.args.words.now in
    let n = c.args.place in
    let here : (n < length heads) × ((head_at heads 0 n).component ≡ c.args.c) = c.is_at.ensures.0 c.if-is_at.true in
    found_here heads words c.args.c n c.requires (place_here heads words c.args.c n c.requires here.0 here.1) here.0 here.1
    ∙ ap Some (ap (λ (x : Held). x.words) (at_cells heads words n no_cell here.0) ∙ sym c.words_in.ensures)
