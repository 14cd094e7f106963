use Rattle.std.proofs.Common.{◌∙◌, ap, arith, length}
use Rattle.smallvec.proofs.SmallVecLemmas.{items-with_items}
use Rattle.cell_marks.specs.Bits.{bits_of}
use Rattle.cell_marks.specs.Marked.{is_set}
use Rattle.cell_marks.proofs.Bits.{at_bits}
use Rattle.cell_marks.proofs.Unions.{len_of}
use Rattle.cell_marks.proofs.row.Row.gather.Goals as goal

pub gather_in-requires-clause-width : goal.gather_in-requires-clause-width
gather_in-requires-clause-width c = λ k h.
    c.requires.width k h ∙ len_of c.self.inside.words.items c.self.inside.len c.args.self.now c.self.view_is

pub returns-clause-marks : goal.returns-clause-marks
returns-clause-marks c = λ k h.
    let i = c.self.inside in
    let ws = c.gather_in.new.words in
    let lent = c.deref_mut.ensures.value in
    let mine = len_of i.words.items i.len c.args.self.now c.self.view_is in
    ap (λ ys. is_set (bits_of ys i.len) k) (items-with_items i.words ws (c.gather_in.ensures.len ∙ ap length lent))
    ∙ at_bits ws i.len k (omega (arith, h, mine))
    ∙ c.gather_in.ensures.bits k (omega (arith, h, mine))
