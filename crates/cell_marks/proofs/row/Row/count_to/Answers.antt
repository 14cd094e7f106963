use Rattle.std.proofs.Common.{◌≤◌, ◌∙◌, ap, arith, length, take}
use Rattle.cell_marks.specs.Bits.{bits_of}
use Rattle.cell_marks.specs.Marked.{count_in}
use Rattle.cell_marks.proofs.Added.{taken_bits}
use Rattle.cell_marks.proofs.Unions.{len_of}
use Rattle.cell_marks.proofs.row.Row.count_to.Goals as goal

pub counted_in-requires : goal.counted_in-requires
counted_in-requires c =
    let i = c.self.inside in
    let mine = len_of i.words.items i.len c.args.self.now c.self.view_is in
    omega (arith, mine, c.requires, c.self.invariant.0, ap length c.deref.ensures)

pub returns : goal.returns
returns c =
    let i = c.self.inside in
    let n = c.args.n in
    let within : n ≤ i.len = omega (arith, len_of i.words.items i.len c.args.self.now c.self.view_is, c.requires) in
    c.counted_in.ensures
    ∙ ap (λ ws. count_in (bits_of ws n)) c.deref.ensures
    ∙ ap count_in (taken_bits i.words.items i.len n within)
    ∙ ap (λ r. count_in (take n r)) c.self.view_is
