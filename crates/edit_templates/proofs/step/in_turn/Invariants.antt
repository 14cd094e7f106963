use Rattle.std.proofs.Common.{◌≡◌, map}
use Rattle.omega_net.specs.Wires.{below}
use Rattle.edit_templates.specs.Steps.{steps_at}
use Rattle.edit_templates.proofs.step.in_turn.Given as goal

abbrev pub invariant-loop-place : goal.invariant-loop-place
invariant-loop-place l = l.rows.items ≡ map (steps_at (map (λ axis. axis.steps.items) l.axes)) (below l.place)
