use Rattle.std.proofs.Common.{◌+◌, ◌<◌, ◌∙◌, ap, sym, subst, length, arith}
use Rattle.flat_row.specs.Stages.{buffers_in}
use Rattle.flat_row.proofs.Staging.{beside_is, put_here, put_other, put_same, can_cross, back_met}
use Rattle.flat_row.proofs.stages.stage_back.Goals as goal

pub index_mut-beside-requires : goal.index_mut-beside-requires
index_mut-beside-requires c = omega (arith, c.requires.buffers.many, c.requires.stage)

pub cross_back-requires-clause-can : goal.cross_back-requires-clause-can
cross_back-requires-clause-can c =
    can_cross c.args.project.now (c.is_project.ensures.project.small) (c.args.project.now.k + 1) c.args.levels.now.items c.requires.levels c.args.stage c.requires.stage c.comb_settings-settings.result c.comb_settings-settings.ensures c.index_mut-beside.result.now (ap (λ b. length b.entries) (beside_is c.args.waits.now.items c.args.stage c.index_mut-beside.result.now c.index_mut-beside.result.now (subst (λ n. c.args.stage < n) (sym c.requires.buffers.many) c.requires.stage) c.index_mut-beside.ensures.value) ∙ c.requires.buffers.each c.args.stage c.requires.stage) (c.args.stage + 1) c.args.stage (λ e. omega (arith, e)) (omega (arith, c.requires.stage)) (omega (arith, c.requires.stage))

pub cross_back-requires-clause-from : goal.cross_back-requires-clause-from
cross_back-requires-clause-from c = omega (arith, c.requires.levels.many, c.requires.stage)

pub cross_back-requires-clause-to : goal.cross_back-requires-clause-to
cross_back-requires-clause-to c = omega (arith, c.requires.levels.many, c.requires.stage)

pub returns-clause-met : goal.returns-clause-met
returns-clause-met c =
    back_met c.args.project.now c.args.stage (c.args.stage + 1) c.args.stage c.args.leave c.args.levels.now.items c.cross_back.new.levels.items c.comb_settings-settings.result c.index_mut-beside.result.now c.cross_back.new.waits (buffers_in c.args.waits.now.items c.args.stage) _ c.comb_settings-settings.ensures
    (beside_is c.args.waits.now.items c.args.stage c.index_mut-beside.result.now c.index_mut-beside.result.now (subst (λ n. c.args.stage < n) (sym c.requires.buffers.many) c.requires.stage) c.index_mut-beside.ensures.value) (sym (put_here c.args.waits.now.items c.args.stage c.index_mut-beside.result.now c.cross_back.new.waits (subst (λ n. c.args.stage < n) (sym c.requires.buffers.many) c.requires.stage) c.index_mut-beside.ensures.value)) c.cross_back.ensures

pub returns-clause-buffers : goal.returns-clause-buffers
returns-clause-buffers c = put_same c.args.waits.now.items c.args.stage c.index_mut-beside.result.now c.cross_back.new.waits (subst (λ n. c.args.stage < n) (sym c.requires.buffers.many) c.requires.stage) c.index_mut-beside.ensures.value (c.cross_back.ensures.entries)

pub returns-clause-others : goal.returns-clause-others
returns-clause-others c = put_other c.args.waits.now.items c.args.stage c.index_mut-beside.result.now c.cross_back.new.waits (subst (λ n. c.args.stage < n) (sym c.requires.buffers.many) c.requires.stage) c.index_mut-beside.ensures.value
