use Rattle.std.proofs.Common.{◌≡◌, ◌+◌, ◌*◌, ◌||◌, ◌∙◌, [], sym, ap, arith}
use Rattle.std.proofs.Math.Bool.{or-false}
use Rattle.cell_marks.specs.Bits.{bit_in}
use Rattle.cell_marks.proofs.Blocks.{at_block, past_block}
use Rattle.cell_marks.proofs.row.join_row.Goals as goal

pub returns-in-Some : goal.returns-in-Some
returns-in-Some c = λ k h.
    let found = c.in-Some.ensures.lookup.3 in
    let place : 64 * 0 + k ≡ k = omega arith in
    c.join_four.ensures k h
    ∙ ap (λ b. bit_in c.args.four.now k || b)
    (ap (bit_in c.in-Some.row.now) place
    ∙ ap (λ ws. bit_in ws k) (found.1 [])
    ∙ sym (at_block c.args.block.now c.args.c k found.0 h))

pub returns-in-None : goal.returns-in-None
returns-in-None c = λ k h.
    sym
    (ap (λ b. bit_in c.args.four.now k || b) (past_block c.args.block.now c.args.c k c.in-None.ensures.lookup.3)
    ∙ or-false (bit_in c.args.four.now k))
