use Rattle.std.proofs.Common.{◌≡◌, map, [], replicate}
use Rattle.std.specs.Arc.{arc_value}
use Rattle.project_book.proofs.scripts.Scripts.new.Given as goal

abbrev pub invariant-loop : goal.invariant-loop
invariant-loop l = map arc_value l.scripts.items ≡ replicate l.counter []
