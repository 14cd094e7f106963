use Rattle.std.proofs.Common.{◌≡◌, ◌++◌, map}
use Rattle.omega_net.specs.Wires.{below}
use Rattle.machine_cells.specs.Run.{run}
use Rattle.machine_cells.specs.Runs.{state_in}
use Rattle.experiments.specs.Lengths.{length_there}
use Rattle.experiments.proofs.map.add_stage.Given as goal

abbrev pub invariant-loop-place : goal.invariant-loop-place
invariant-loop-place l =
    l.lengths.items ≡ l.initial.lengths.items ++ map (length_there l.project.k l.scope.net l.scope.«module» (state_in (run l.project) l.runner.cycle) l.stage) (below l.place)
