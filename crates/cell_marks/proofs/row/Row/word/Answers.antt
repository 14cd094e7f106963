use Rattle.std.proofs.Common.{◌+◌, ◌*◌, ◌∙◌, sym}
use Rattle.cell_marks.proofs.Bits.{bit_of_word}
use Rattle.cell_marks.proofs.row.Row.word.Goals as goal

pub returns : goal.returns
returns c = λ i h there. sym (bit_of_word c.words.result.now c.args.at i h) ∙ c.words.ensures.bits (64 * c.args.at + i) there
