use Rattle.std.proofs.Common.{ap, eqb, eq-eqb, w64}
use Rattle.std.proofs.lemmas.Nat.Bits.{bit_at_set_same, bit_at_set_other}
use Rattle.change_rows.proofs.marks.with_bit.Goals as goal

pub returns-clause-set : goal.returns-clause-set
returns-clause-set c = eq-eqb _ 1 (bit_at_set_same w64 c.args.word c.args.k c.requires)

pub returns-clause-others : goal.returns-clause-others
returns-clause-others c = λ i ne. ap (λ b. eqb b 1) (bit_at_set_other w64 c.args.word c.args.k c.requires i ne)
