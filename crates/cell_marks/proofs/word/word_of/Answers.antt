use Rattle.std.proofs.Common.{ap, eqb, ◌∙◌, arith, sym}
use Rattle.std.proofs.lemmas.Nat.Bits.{bit_at_mask_inside}
use Rattle.cell_marks.proofs.word.word_of.Goals as goal

pub returns-then-is_set : goal.returns-then-is_set
returns-then-is_set c = λ i h. ap (λ b. eqb b 1) (bit_at_mask_inside 0 64 i (omega arith) h) ∙ sym c.if-is_set.true
