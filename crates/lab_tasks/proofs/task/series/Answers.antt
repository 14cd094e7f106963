use Rattle.std.proofs.Common.{inr}
use Rattle.lab_tasks.proofs.task.series.Goals as goal

pub returns-in-Err-clause-refused : goal.returns-in-Err-clause-refused
returns-in-Err-clause-refused c = inr (inr (c.in_ok-project.project, c.in_ok-project.ensures.filed, c.in-Err.ensures.refused))
