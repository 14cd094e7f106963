use Rattle.std.proofs.Common.{◌∙◌, ap, sym, arith, length}
use Rattle.cell_marks.specs.Bits.{bit_in}
use Rattle.cell_marks.specs.Marked.{is_set}
use Rattle.cell_marks.proofs.Bits.{at_bits, length_bits}
use Rattle.cell_marks.proofs.row.Row.words.Goals as goal

pub returns-clause-room : goal.returns-clause-room
returns-clause-room c =
    let i = c.self.inside in
    omega (arith, ap length (sym c.self.view_is), length_bits i.words.items i.len, ap length c.deref.ensures, c.self.invariant.0)

pub returns-clause-bits : goal.returns-clause-bits
returns-clause-bits c = λ d h.
    let i = c.self.inside in
    ap (λ ws. bit_in ws d) c.deref.ensures
    ∙ sym (at_bits i.words.items i.len d (omega (arith, h, ap length (sym c.self.view_is), length_bits i.words.items i.len)))
    ∙ ap (λ row. is_set row d) c.self.view_is
