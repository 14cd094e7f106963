use Rattle.std.proofs.Common.{◌≡◌, map}
use Rattle.omega_net.specs.Wires.{below}
use Rattle.experiments.specs.Lanes.{lane_count}
use Rattle.experiments.proofs.lanes.lane_counts.Given as goal

abbrev pub invariant-loop-proc : goal.invariant-loop-proc
invariant-loop-proc l = l.counts.items ≡ map (lane_count l.rows) (below l.proc)
