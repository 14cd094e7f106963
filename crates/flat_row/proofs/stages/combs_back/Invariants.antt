use Rattle.flat_row.proofs.Staging.{PartlyBack}
use Rattle.flat_row.proofs.stages.combs_back.Given as goal

abbrev pub invariant-loop-stage : goal.invariant-loop-stage
invariant-loop-stage l = PartlyBack l.project l.leave l.stage l.initial.levels.items l.levels.items l.initial.waits.items l.waits.items
