use Rattle.std.proofs.Common.{◌≡◌, ◌++◌}
use Rattle.machine_cells.specs.Run.{run}
use Rattle.machine_cells.specs.Runs.{state_in}
use Rattle.experiments.specs.Lengths.{lengths_now}
use Rattle.experiments.proofs.map.add_lengths.Given as goal

abbrev pub invariant-loop-back : goal.invariant-loop-back
invariant-loop-back l =
    l.lengths.items ≡ l.initial.lengths.items ++ lengths_now l.project.k l.scope.net l.scope.«module» (state_in (run l.project) l.runner.cycle) l.back
