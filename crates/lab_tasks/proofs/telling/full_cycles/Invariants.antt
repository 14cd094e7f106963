use Rattle.std.proofs.Common.{◌≡◌, take}
use Rattle.lab_tasks.specs.Tellings.{full_cycles}
use Rattle.lab_tasks.proofs.telling.full_cycles.Given as goal

abbrev pub invariant-loop-full : goal.invariant-loop-full
invariant-loop-full l = l.cycles.items ≡ full_cycles (take l.full-index l.fulls)
