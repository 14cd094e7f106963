use Rattle.std.proofs.Common.{sym, ◌∙◌, arith}
use Rattle.machine_cells.specs.Run.{run}
use Rattle.machine_cells.specs.Runs.{state_in}
use Rattle.saturation.specs.Towards.{is_full_stage}
use Rattle.saturation.proofs.Heights.{height_is, one_higher}
use Rattle.experiments.proofs.map.level_now.Goals as goal

pub loop-level-init : goal.loop-level-init
loop-level-init c s low high = absurd (omega arith)

pub returns-then-not-is_next_full : goal.returns-then-not-is_next_full
returns-then-not-is_next_full c =
    let full = is_full_stage c.args.project.now c.args.scope.net c.args.scope.«module» (state_in (run c.args.project.now) c.args.runner.now.cycle) in
    sym (height_is full c.args.project.now.k c.loop-level.level (omega (arith, c.k-k.ensures.k)) c.loop-level.invariant
    (λ _. sym c.is_next_full.ensures ∙ c.if-not-is_next_full.true))

pub loop-level-preserved : goal.loop-level-preserved
loop-level-preserved c =
    let full = is_full_stage c.args.project.now c.args.scope.net c.args.scope.«module» (state_in (run c.args.project.now) c.args.runner.now.cycle) in
    one_higher full c.args.project.now.k c.loop-level.level c.loop-level.invariant (sym c.is_next_full.ensures ∙ c.if-not-is_next_full.false)

pub returns : goal.returns
returns c =
    let full = is_full_stage c.args.project.now c.args.scope.net c.args.scope.«module» (state_in (run c.args.project.now) c.args.runner.now.cycle) in
    c.k-k.ensures.k
    ∙ sym (height_is full c.args.project.now.k c.args.project.now.k (omega arith)
    (λ s low high. c.loop-level.invariant s (omega (arith, c.k-k.ensures.k)) high) (λ lt. absurd (omega arith)))
