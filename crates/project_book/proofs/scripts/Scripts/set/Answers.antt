use Rattle.std.proofs.Common.{refl}
use Rattle.std.proofs.lemmas.List.{map-set}
use Rattle.project_book.proofs.scripts.Scripts.set.Goals as goal

pub returns-clause-ok : goal.returns-clause-ok
returns-clause-ok c = rw (map-set, c.in_ok-owner.ensures.ok, c.self.view_is) refl
