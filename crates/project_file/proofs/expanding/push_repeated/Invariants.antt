use Rattle.std.proofs.Common.{◌≡◌}
use Rattle.project_file.specs.Expanding.{repeated}
use Rattle.project_file.proofs.expanding.push_repeated.Given as goal

abbrev pub invariant-loop : goal.invariant-loop
invariant-loop l = l.entries.items ≡ repeated l.counter l.more l.initial.entries.items
