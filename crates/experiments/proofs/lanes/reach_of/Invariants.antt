use Rattle.std.proofs.Common.{◌≡◌, drop}
use Rattle.std.specs.Prelude.{max}
use Rattle.experiments.specs.Lanes.{greatest, reach_to}
use Rattle.experiments.proofs.lanes.reach_of.Given as goal

abbrev pub invariant-loop-other : goal.invariant-loop-other
invariant-loop-other l = max l.most (greatest (reach_to l.row) (drop l.other-index l.rows)) ≡ greatest (reach_to l.row) l.rows
