use Rattle.std.proofs.Common.{◌≡◌, ◌<◌, ◌≤◌, ◌-◌, slice_get, map, ℕ, true}
use Rattle.saturation.specs.Towards.{is_full_stage}
use Rattle.saturation.proofs.levels.level.Given as goal

abbrev pub invariant-loop-level : goal.invariant-loop-level
invariant-loop-level l =
    (s : ℕ) → l.project.k - l.level ≤ s → s < l.project.k → is_full_stage l.project l.net l.module (slice_get (map (λ r. r.now) l.row)) s ≡ true
