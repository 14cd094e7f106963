use Rattle.std.proofs.Common.{◌≡◌, ◌+◌, map}
use Rattle.omega_net.specs.Wires.{below}
use Rattle.machine_cells.specs.Run.{run}
use Rattle.machine_cells.specs.Runs.{state_in}
use Rattle.experiments.specs.Lengths.{length_there}
use Rattle.experiments.proofs.map.queue_lengths.Given as goal

abbrev pub invariant-loop-index : goal.invariant-loop-index
invariant-loop-index l =
    l.lengths.items ≡ map (λ i. length_there l.project.k l.kept.scope.net l.kept.scope.«module» (state_in (run l.project) (i + l.kept.scope.window.from)) l.stage l.place) (below l.index)
