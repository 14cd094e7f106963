use Rattle.std.proofs.Common.{refl}
use Rattle.flat_row.proofs.Ending.{same_level}
use Rattle.flat_row.proofs.Processing.{shows_still}
use Rattle.flat_row.proofs.acting.show.Goals as goal

pub returns-in-None-clause-only : goal.returns-in-None-clause-only
returns-in-None-clause-only c = record { low_same = same_level c.args.low.now; comb_same = same_level c.args.comb.now; low_others = λ q ne. refl; comb_others = λ q ne. refl }

pub returns-in-None-clause-shown : goal.returns-in-None-clause-shown
returns-in-None-clause-shown c = shows_still _ c.args.next.now c.requires.issued c.in-None.ensures
