use Rattle.std.proofs.Common.{◌≡◌, map, take}
use Rattle.std.specs.Arc.{arc_value}
use Rattle.project_book.proofs.scripts.share_each.Given as goal

abbrev pub invariant-loop-script : goal.invariant-loop-script
invariant-loop-script l = map arc_value l.shared.items ≡ map arc_value (take l.script-index l.scripts)
