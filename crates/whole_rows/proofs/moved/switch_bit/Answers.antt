use Rattle.std.proofs.Common.{arith}
use Rattle.whole_rows.proofs.Switching.{past_lines, first_port, second_port}
use Rattle.whole_rows.proofs.moved.switch_bit.Goals as goal

pub returns-then-label-lines-clause-bits : goal.returns-then-label-lines-clause-bits
returns-then-label-lines-clause-bits c = past_lines c.args.shape c.args.stage c.args.label c.requires (omega (arith, c.lines.ensures.value, c.if-label-lines.true))

pub returns-then-index-half-clause-bits : goal.returns-then-index-half-clause-bits
returns-then-index-half-clause-bits c =
    first_port c.args.shape c.args.stage c.args.label c.requires c.line_of-index.result c.line_of-index.ensures.value
    (omega (arith, c.lines.ensures.value, c.if-label-lines.false)) (omega (arith, c.half.ensures.value, c.if-index-half.true))
    (omega (arith, c.half.ensures.within, c.if-index-half.true))

pub returns-else-index-half-clause-bits : goal.returns-else-index-half-clause-bits
returns-else-index-half-clause-bits c =
    second_port c.args.shape c.args.stage c.args.label c.requires c.line_of-index.result c.line_of-index.ensures.value
    (omega (arith, c.half.ensures.value, c.if-index-half.false))
