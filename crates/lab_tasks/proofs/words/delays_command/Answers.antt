use Rattle.lab_tasks.proofs.words.delays_command.Goals as goal

pub returns : goal.returns
returns c = c.in_ok-task-3.ensures _ (c.in_ok-task-2.ensures _ c.in_ok-task.ensures)
