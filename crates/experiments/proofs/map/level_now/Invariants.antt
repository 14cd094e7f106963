use Rattle.std.proofs.Common.{◌≡◌, ◌<◌, ◌≤◌, ◌-◌, ℕ, true}
use Rattle.machine_cells.specs.Run.{run}
use Rattle.machine_cells.specs.Runs.{state_in}
use Rattle.saturation.specs.Towards.{is_full_stage}
use Rattle.experiments.proofs.map.level_now.Given as goal

abbrev pub invariant-loop-level : goal.invariant-loop-level
invariant-loop-level l =
    (s : ℕ) → l.project.k - l.level ≤ s → s < l.project.k → is_full_stage l.project l.scope.net l.scope.«module» (state_in (run l.project) l.runner.cycle) s ≡ true
