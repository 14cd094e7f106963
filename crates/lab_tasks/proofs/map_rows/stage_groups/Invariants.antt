use Rattle.std.proofs.Common.{◌≡◌, ◌-◌, map}
use Rattle.omega_net.specs.Wires.{below}
use Rattle.lab_tasks.specs.MapRows.{stage_group}
use Rattle.lab_tasks.proofs.map_rows.stage_groups.Given as goal

abbrev pub invariant-loop-back : goal.invariant-loop-back
invariant-loop-back l = l.groups.items ≡ map (λ back. stage_group l.shape l.net l.«module» l.way (l.shape - 1 - back)) (below l.back)
