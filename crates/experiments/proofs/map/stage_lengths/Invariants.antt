use Rattle.std.proofs.Common.{◌≡◌, map}
use Rattle.omega_net.specs.Wires.{below}
use Rattle.machine_cells.specs.Run.{run}
use Rattle.machine_cells.specs.Runs.{state_in}
use Rattle.experiments.specs.Maps.{lengths_towards}
use Rattle.experiments.proofs.map.stage_lengths.Given as goal

abbrev pub invariant-loop-place : goal.invariant-loop-place
invariant-loop-place l =
    l.queues.items ≡ map (lengths_towards l.project.k l.kept.scope.net l.kept.scope.«module» (state_in (run l.project)) l.kept.scope.window.from l.kept.scope.window.to l.stage) (below l.place)
