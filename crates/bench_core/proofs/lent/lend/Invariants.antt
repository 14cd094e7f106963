use Rattle.std.proofs.Common.{◌≡◌, map, take}
use Rattle.std.specs.Arc.{arc_value}
use Rattle.bench_core.proofs.lent.lend.Given as goal

abbrev pub invariant-loop-state : goal.invariant-loop-state
invariant-loop-state l = map (λ r. r.now) l.lent.items ≡ take l.state-index (map arc_value l.row)
