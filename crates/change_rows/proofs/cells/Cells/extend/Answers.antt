use Rattle.std.proofs.Common.{◌∙◌, arith}
use Rattle.change_rows.proofs.Packing.{longer_cells, longer_packed}
use Rattle.change_rows.proofs.cells.Cells.extend.Goals as goal

pub invariant_of-self-2 : goal.invariant_of-self-2
invariant_of-self-2 c =
    let i = c.self.inside in
    longer_packed i.heads.items i.words.items c.extend_from_slice.new.self.items c.args.words.now c.self.invariant c.in_ok-extend_from_slice.ensures.items (omega (arith, c.if-words-from.false, c.len-from.ensures, i.words.ok.0))

pub returns : goal.returns
returns c = λ front cell e.
    let i = c.self.inside in
    longer_cells i.heads.items i.words.items c.extend_from_slice.new.self.items c.args.words.now front cell c.self.invariant c.in_ok-extend_from_slice.ensures.items (c.self.view_is ∙ e)
