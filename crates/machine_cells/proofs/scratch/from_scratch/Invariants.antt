use Rattle.std.proofs.Common.{◌≡◌, map}
use Rattle.std.specs.Arc.{arc_value}
use Rattle.machine_cells.specs.Run.{first_states, run_from}
use Rattle.machine_cells.proofs.scratch.from_scratch.Given as goal

abbrev pub invariant-loop-cycle : goal.invariant-loop-cycle
invariant-loop-cycle l = map (λ row. map arc_value row.items) l.rows.items ≡ run_from l.project (first_states l.project) l.cycle
