use Rattle.std.proofs.Common.{codes}
use Rattle.clap.specs.Words.{new_app}
use Rattle.lab_tasks.proofs.words.shell_command.Goals as goal

pub returns : goal.returns
returns c =
    let one = c.in_ok-task.ensures (new_app (codes "shell")) c.named-task.ensures in
    let two = c.in_ok-task-2.ensures _ one in
    c.in_ok-task-3.ensures _ two
