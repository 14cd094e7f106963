use Rattle.cell_marks.proofs.Added.{missing_below, missing_bits}
use Rattle.cell_marks.proofs.word.missing_bits.Goals as goal

pub returns-clause-below : goal.returns-clause-below
returns-clause-below c = missing_below c.args.word c.args.other c.args.n c.requires.within

pub returns-clause-bits : goal.returns-clause-bits
returns-clause-bits c = missing_bits c.args.word c.args.other c.args.n c.requires.within c.ranges.word.fits
