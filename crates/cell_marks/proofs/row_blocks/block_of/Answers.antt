use Rattle.std.proofs.Common.{◌∙◌, arith}
use Rattle.cell_marks.proofs.Blocks.{at_block}
use Rattle.cell_marks.proofs.row_blocks.block_of.Goals as goal

pub returns-clause-bits : goal.returns-clause-bits
returns-clause-bits c = λ d k h small there.
    let i = c.loop-row.invariant in
    at_block c.loop-row.words.items d k (omega (arith, h, i.len)) small ∙ i.bits d (omega (arith, h)) k small there
