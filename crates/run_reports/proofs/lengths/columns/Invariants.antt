use Rattle.std.proofs.Common.{◌≡◌, map}
use Rattle.omega_net.specs.Wires.{below}
use Rattle.run_reports.specs.Lengths.{column_at}
use Rattle.run_reports.proofs.lengths.columns.Given as goal

abbrev pub invariant-loop-place : goal.invariant-loop-place
invariant-loop-place l = l.all.items ≡ map (column_at l.rows) (below l.place)
