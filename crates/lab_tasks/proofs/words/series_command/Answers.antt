use Rattle.std.proofs.Common.{codes}
use Rattle.clap.specs.Words.{new_app}
use Rattle.lab_tasks.proofs.words.series_command.Goals as goal

pub returns : goal.returns
returns c =
    let one = c.in_ok-task.ensures (new_app (codes "series")) c.named.ensures in
    let two = c.in_ok-task-2.ensures _ one in
    let three = c.in_ok-task-3.ensures _ two in
    let four = c.in_ok-task-4.ensures _ three in
    let five = c.in_ok-task-5.ensures _ four in
    let six = c.in_ok-task-6.ensures _ five in
    c.in_ok-task-7.ensures _ six
