use Rattle.std.proofs.Common.{◌≡◌, ◌<◌, ℕ, true}
use Rattle.machine_cells.specs.Run.{run}
use Rattle.machine_cells.specs.Runs.{state_in}
use Rattle.saturation.specs.Towards.{is_full_on}
use Rattle.saturation.proofs.Lines.{line_of}
use Rattle.experiments.proofs.map.is_full_stage.Given as goal

abbrev pub invariant-loop-place : goal.invariant-loop-place
invariant-loop-place l =
    (p : ℕ) → p < l.place → is_full_on l.project l.scope.net (state_in (run l.project) l.runner.cycle) l.stage (line_of l.project.k l.scope.«module» l.stage p) ≡ true
