use Rattle.std.proofs.Common.{◌≡◌, map, take}
use Rattle.std.specs.Arc.{arc_value}
use Rattle.bench_core.proofs.lent.lend_all.Given as goal

abbrev pub invariant-loop-row : goal.invariant-loop-row
invariant-loop-row l = map (λ row. map (λ r. r.now) row.items) l.lent.items ≡ take l.row-index (map (λ row. map arc_value row.items) l.rows)
