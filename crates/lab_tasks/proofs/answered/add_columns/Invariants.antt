use Rattle.std.proofs.Common.{◌≡◌, ◌++◌, map}
use Rattle.omega_net.specs.Wires.{below}
use Rattle.lab_tasks.specs.Answered.{column_name}
use Rattle.lab_tasks.proofs.answered.add_columns.Given as goal

abbrev pub invariant-loop-place : goal.invariant-loop-place
invariant-loop-place l = l.names.items ≡ l.initial.names.items ++ map (column_name l.form l.ask l.asking) (below l.place)
