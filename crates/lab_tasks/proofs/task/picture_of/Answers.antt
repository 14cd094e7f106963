use Rattle.lab_tasks.proofs.task.picture_of.Goals as goal

pub returns-in-Some-clause-refused : goal.returns-in-Some-clause-refused
returns-in-Some-clause-refused c = rw c.in-Some.is (rw c.as_slice.ensures.value at c.plotted.ensures.refused)
