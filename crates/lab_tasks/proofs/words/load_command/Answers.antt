use Rattle.lab_tasks.proofs.words.load_command.Goals as goal

pub returns : goal.returns
returns c =
    let one = c.in_ok-task-2.ensures _ c.in_ok-task.ensures in
    let two = c.in_ok-task-3.ensures _ one in
    let three = c.in_ok-task-4.ensures _ two in
    c.in_ok-task-5.ensures _ three
