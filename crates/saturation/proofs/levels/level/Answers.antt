use Rattle.std.proofs.Common.{slice_get, map, sym, ◌∙◌, arith}
use Rattle.saturation.specs.Towards.{is_full_stage}
use Rattle.saturation.proofs.Heights.{height_is, one_higher}
use Rattle.saturation.proofs.levels.level.Goals as goal

pub loop-level-init : goal.loop-level-init
loop-level-init c s low high = absurd (omega arith)

pub returns-then-not-is_next_full : goal.returns-then-not-is_next_full
returns-then-not-is_next_full c =
    let full = is_full_stage c.args.project.now c.args.net c.args.module (slice_get (map (λ r. r.now) c.args.row.now)) in
    sym (height_is full c.args.project.now.k c.loop-level.level (omega (arith, c.k-k.ensures.k)) c.loop-level.invariant
    (λ _. sym c.is_next_full.ensures ∙ c.if-not-is_next_full.true))

pub loop-level-preserved : goal.loop-level-preserved
loop-level-preserved c =
    let full = is_full_stage c.args.project.now c.args.net c.args.module (slice_get (map (λ r. r.now) c.args.row.now)) in
    one_higher full c.args.project.now.k c.loop-level.level c.loop-level.invariant (sym c.is_next_full.ensures ∙ c.if-not-is_next_full.false)

pub returns : goal.returns
returns c =
    let full = is_full_stage c.args.project.now c.args.net c.args.module (slice_get (map (λ r. r.now) c.args.row.now)) in
    c.k-k.ensures.k
    ∙ sym (height_is full c.args.project.now.k c.args.project.now.k (omega arith)
    (λ s low high. c.loop-level.invariant s (omega (arith, c.k-k.ensures.k)) high) (λ lt. absurd (omega arith)))
