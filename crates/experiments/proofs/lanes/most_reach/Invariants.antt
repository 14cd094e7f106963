use Rattle.std.proofs.Common.{◌≡◌, drop}
use Rattle.std.specs.Prelude.{max}
use Rattle.experiments.specs.Lanes.{greatest, reach_to}
use Rattle.experiments.proofs.lanes.most_reach.Given as goal

abbrev pub invariant-loop-row : goal.invariant-loop-row
invariant-loop-row l = max l.most (greatest (λ r. greatest (reach_to r) l.rows) (drop l.row-index l.rows)) ≡ greatest (λ r. greatest (reach_to r) l.rows) l.rows
