use Rattle.std.proofs.Common.{◌∙◌, arith, rules}
use Rattle.lab_tasks.proofs.Stages.{none_offered, stage_offered}
use Rattle.lab_tasks.proofs.load.kept_offer.Goals as goal

pub returns-then-not-offer-clause-kept : goal.returns-then-not-offer-clause-kept
returns-then-not-offer-clause-kept c = c.in_ok-project.ensures ∙ none_offered c.args.offer (omega arith) (search rules)

pub loop-stage-preserved : goal.loop-stage-preserved
loop-stage-preserved c = stage_offered c.args.offer c.loop-stage.project _ c.loop-stage.stage (omega arith) c.loop-stage.invariant (search rules)
