use Rattle.std.proofs.Common.{◌≡◌, ◌<◌, slice_get, map, ℕ, true}
use Rattle.saturation.specs.Towards.{is_full_on}
use Rattle.saturation.proofs.Lines.{line_of}
use Rattle.saturation.proofs.queues.is_full_stage.Given as goal

abbrev pub invariant-loop-place : goal.invariant-loop-place
invariant-loop-place l =
    (p : ℕ) → p < l.place → is_full_on l.project l.net (slice_get (map (λ r. r.now) l.row)) l.stage (line_of l.project.k l.module l.stage p) ≡ true
