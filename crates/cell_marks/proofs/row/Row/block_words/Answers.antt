use Rattle.std.proofs.Common.{◌≡◌, ◌+◌, ◌*◌, ◌||◌, ◌∙◌, sym, ap, arith, length}
use Rattle.cell_marks.specs.Bits.{bit_in}
use Rattle.cell_marks.proofs.Blocks.{blank_four}
use Rattle.cell_marks.proofs.Unions.{len_of, bit_of_row}
use Rattle.cell_marks.proofs.row.Row.block_words.Goals as goal

pub join_four-requires : goal.join_four-requires
join_four-requires c =
    let i = c.self.inside in
    omega (arith, len_of i.words.items i.len c.args.self.now c.self.view_is, c.requires, c.self.invariant.0, ap length c.deref.ensures)

pub returns : goal.returns
returns c = λ k h there.
    let i = c.self.inside in
    let d = 256 * c.args.block + k in
    let place : 64 * (c.args.block * 4) + k ≡ d = omega arith in
    c.join_four.ensures k h
    ∙ ap (λ b. b || bit_in c.deref.result.now (64 * (c.args.block * 4) + k)) (blank_four k h)
    ∙ ap (bit_in c.deref.result.now) place
    ∙ ap (λ ws. bit_in ws d) c.deref.ensures
    ∙ sym (bit_of_row i.words.items i.len c.args.self.now c.self.view_is d (omega (arith, there, len_of i.words.items i.len c.args.self.now c.self.view_is)))
