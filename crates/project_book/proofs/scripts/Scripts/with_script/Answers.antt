use Rattle.std.proofs.Common.{refl}
use Rattle.std.proofs.lemmas.List.{map-set}
use Rattle.project_book.proofs.scripts.Scripts.with_script.Goals as goal

pub returns : goal.returns
returns c =
    rw (map-set, c.in_ok-script.ensures.ok, c.in_ok-scripts.ensures, c.deref.ensures.value, c.self.view_is) refl
