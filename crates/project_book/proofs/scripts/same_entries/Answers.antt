use Rattle.std.proofs.lemmas.Slice.Eq.{slice_eq-Decides}
use Rattle.project_book.proofs.Same.{entry_decides}
use Rattle.project_book.proofs.scripts.same_entries.Goals as goal

pub returns : goal.returns
returns c = slice_eq-Decides entry_decides c.args.entries.now c.args.others.now c.eq.result c.eq.ensures
