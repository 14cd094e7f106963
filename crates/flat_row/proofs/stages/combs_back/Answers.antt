use Rattle.std.proofs.Common.{◌≡◌, ◌+◌, ◌<◌, ◌≤◌, subst, arith}
use Rattle.omega_net.specs.Numbers.{lines}
use Rattle.flat_row.proofs.Staging.{PartlyBack, none_back_yet, back_some, back_stage_more, all_back_met, levels_still, buffers_still}
use Rattle.flat_row.proofs.stages.combs_back.Goals as goal

pub loop-stage-init : goal.loop-stage-init
loop-stage-init c = none_back_yet c.args.project.now (omega (arith, c.k-stage-end.ensures.k, c.k-stage-end.ensures.small)) c.args.leave.now c.args.levels.now.items c.args.waits.now.items

pub stage_back-requires-clause-levels : goal.stage_back-requires-clause-levels
stage_back-requires-clause-levels c = levels_still (c.args.project.now.k + 1) (lines c.args.project.now.k) c.args.levels.now.items c.loop-stage.levels.items c.requires.levels c.loop-stage.invariant.shape

pub stage_back-requires-clause-buffers : goal.stage_back-requires-clause-buffers
stage_back-requires-clause-buffers c = buffers_still c.args.project.now.k (lines c.args.project.now.k) c.args.waits.now.items c.loop-stage.waits.items c.requires.buffers c.loop-stage.invariant.buffers

pub stage_back-requires-clause-some : goal.stage_back-requires-clause-some
stage_back-requires-clause-some c =
    let few : c.args.project.now.k ≤ 6 = omega (arith, c.k-stage-end.ensures.k, c.k-stage-end.ensures.small) in
    let lt : c.loop-stage.stage < c.args.project.now.k = omega (arith, c.loop-stage-test.true, c.k-stage-end.ensures.k) in
    back_some c.args.project.now few c.args.leave.now c.args.levels.now.items c.args.waits.now.items c.loop-stage.stage lt c.loop-stage.levels.items c.loop-stage.waits.items c.loop-stage.invariant c.requires.some

pub loop-stage-preserved : goal.loop-stage-preserved
loop-stage-preserved c =
    let few : c.args.project.now.k ≤ 6 = omega (arith, c.k-stage-end.ensures.k, c.k-stage-end.ensures.small) in
    let lt : c.loop-stage.stage < c.args.project.now.k = omega (arith, c.loop-stage-test.true, c.k-stage-end.ensures.k) in
    back_stage_more c.args.project.now few c.args.leave.now c.args.levels.now.items c.args.waits.now.items c.loop-stage.stage lt c.loop-stage.levels.items c.loop-stage.waits.items c.loop-stage.invariant
    c.stage_back.new.levels.items c.stage_back.new.waits.items c.stage_back.ensures.met c.stage_back.ensures.buffers c.stage_back.ensures.others

pub returns : goal.returns
returns c =
    let few : c.args.project.now.k ≤ 6 = omega (arith, c.k-stage-end.ensures.k, c.k-stage-end.ensures.small) in
    let e : c.loop-stage.stage ≡ c.args.project.now.k = omega (arith, c.loop-stage-test.false, c.k-stage-end.ensures.k, c.loop-stage.auto.stage-end) in
    all_back_met c.args.project.now few c.args.leave.now c.args.levels.now.items c.args.waits.now.items c.loop-stage.levels.items c.loop-stage.waits.items
    (subst (λ n. PartlyBack c.args.project.now c.args.leave.now n c.args.levels.now.items c.loop-stage.levels.items c.args.waits.now.items c.loop-stage.waits.items) e c.loop-stage.invariant)
