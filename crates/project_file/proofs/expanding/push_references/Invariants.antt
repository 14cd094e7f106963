use Rattle.std.proofs.Common.{◌≡◌, ◌++◌}
use Rattle.project_file.specs.Expanding.{references}
use Rattle.project_file.proofs.expanding.push_references.Given as goal

abbrev pub invariant-loop-turn : goal.invariant-loop-turn
invariant-loop-turn l = l.entries.items ≡ l.initial.entries.items ++ references l.stepped l.turn
