use Rattle.std.proofs.Common.{◌∙◌, arith, rules}
use Rattle.lab_tasks.proofs.Stages.{none_kept, stage_kept}
use Rattle.lab_tasks.proofs.task.kept_project.Goals as goal

pub returns-then-not-load-clause-kept : goal.returns-then-not-load-clause-kept
returns-then-not-load-clause-kept c = c.in_ok-project.ensures ∙ none_kept c.args.load (omega arith) (search rules)

pub loop-stage-preserved : goal.loop-stage-preserved
loop-stage-preserved c = stage_kept c.args.load c.loop-stage.project _ c.loop-stage.stage (omega arith) c.loop-stage.invariant (search rules)
