use Rattle.lab_tasks.proofs.words.drawn_command.Goals as goal

pub returns : goal.returns
returns c = λ app is.
    c.in_ok-task-5.ensures _ (c.in_ok-task-4.ensures _ (c.in_ok-task-3.ensures _ (c.in_ok-task-2.ensures _ (c.in_ok-task.ensures app is))))
