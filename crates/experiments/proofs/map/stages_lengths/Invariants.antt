use Rattle.std.proofs.Common.{◌≡◌, ◌-◌, ℕ, map}
use Rattle.omega_net.specs.Wires.{below}
use Rattle.machine_cells.specs.Run.{run}
use Rattle.machine_cells.specs.Runs.{state_in}
use Rattle.experiments.specs.Maps.{stage_lengths}
use Rattle.experiments.specs.declared.map.StageLengths.{StageLengths}
use Rattle.experiments.proofs.map.stages_lengths.Given as goal

abbrev pub invariant-loop-back : goal.invariant-loop-back
invariant-loop-back l =
    let made : ℕ → StageLengths = λ back. record { stage = l.project.k - 1 - back; queues = stage_lengths l.project.k l.kept.scope.net l.kept.scope.«module» (state_in (run l.project)) l.kept.scope.window.from l.kept.scope.window.to (l.project.k - 1 - back) } in
    l.stages.items ≡ map made (below l.back)
