use Rattle.lab_tasks.proofs.series.picture_of.Goals as goal

pub returns-in-Some : goal.returns-in-Some
returns-in-Some c = rw c.in-Some.is (rw c.as_slice.ensures.value at c.series_picture.ensures)
