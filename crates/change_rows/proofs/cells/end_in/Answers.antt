use Rattle.std.proofs.Common.{◌≡◌, ◌+◌, ◌-◌, ◌∙◌, ap, arith, length}
use Rattle.change_rows.specs.declared.head.Head.{Head}
use Rattle.change_rows.specs.Packed.{cells_of}
use Rattle.change_rows.proofs.Finding.{end_last}
use Rattle.change_rows.proofs.Packing.{length_cells, component_is}
use Rattle.change_rows.proofs.cells.end_in.Goals as goal

pub returns : goal.returns
returns c =
    let heads = c.args.heads.now in
    let words = c.args.words.now in
    let n = length heads - 1 in
    let e : length heads ≡ n + 1 = omega (arith, c.if-count-eq0.false) in
    omega (arith, c.from.ensures, c.component.ensures, ap (λ (x : Head). x.component) c.index-heads-count.is, end_last (cells_of heads words) n c.requires.ascends (length_cells heads words ∙ e), component_is heads words n c.index-heads-count.result (omega (arith, e)))
