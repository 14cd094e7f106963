use Rattle.std.proofs.lemmas.Slice.Eq.{slice_eq-Decides}
use Rattle.comb_switch.proofs.Same.{waiting_decides}
use Rattle.flat_row.proofs.same.same_entries.Goals as goal

pub returns : goal.returns
returns c = slice_eq-Decides waiting_decides c.args.entries.now c.args.others.now c.eq.result c.eq.ensures
