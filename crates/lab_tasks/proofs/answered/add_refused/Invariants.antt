use Rattle.std.proofs.Common.{◌≡◌, ◌++◌, map}
use Rattle.std.specs.Prelude.{Some}
use Rattle.omega_net.specs.Wires.{below}
use Rattle.lab_tasks.specs.Answered.{refused_cell}
use Rattle.lab_tasks.proofs.answered.add_refused.Given as goal

abbrev pub invariant-loop-place : goal.invariant-loop-place
invariant-loop-place l = map Some l.cells.items ≡ map Some l.initial.cells.items ++ map (refused_cell l.number) (below l.place)
