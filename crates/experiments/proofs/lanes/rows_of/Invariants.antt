use Rattle.std.proofs.Common.{◌≡◌, filter, take}
use Rattle.std.specs.Prelude.{◌==◌}
use Rattle.experiments.proofs.lanes.rows_of.Given as goal

abbrev pub invariant-loop-row : goal.invariant-loop-row
invariant-loop-row l = l.own.items ≡ filter (λ r. r.tag.proc == l.proc) (take l.row-index l.rows)
