use Rattle.std.proofs.Common.{length, rules}
use Rattle.lab_tasks.specs.Sweeps.{rows_of}
use Rattle.lab_tasks.specs.EditSweeps.{edit_count}
use Rattle.lab_tasks.proofs.EditRows.{few-rows}
use Rattle.lab_tasks.proofs.edit_sweep.are_few.Goals as goal

pub returns : goal.returns
returns c = rw (← few-rows (length (rows_of c.args.all.now)) (edit_count c.args.zip c.args.axes.now)) (search rules)
