use Rattle.std.proofs.Common.{◌*◌, ◌∙◌, arith, false}
use Rattle.std.proofs.lemmas.List.{get_or_past}
use Rattle.cell_marks.specs.Bits.{block_rows}
use Rattle.cell_marks.proofs.Added.{any_end}
use Rattle.cell_marks.proofs.row.gather_four.Goals as goal

pub returns : goal.returns
returns c = λ k h.
    c.loop-word.invariant k h
    ∙ any_end c.args.set.now (block_rows c.args.block.now) k _ (64 * c.loop-word.word) (omega arith) (λ d past. get_or_past c.args.set.now d false past)
