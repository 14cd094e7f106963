use Rattle.std.proofs.Common.{codes}
use Rattle.clap.specs.Words.{new_app}
use Rattle.lab_tasks.proofs.words.map_command.Goals as goal

pub returns : goal.returns
returns c =
    let one = c.in_ok-task.ensures (new_app (codes "map")) c.named.ensures in
    let two = c.in_ok-task-2.ensures _ one in
    let three = c.in_ok-task-3.ensures _ two in
    let four = c.in_ok-task-4.ensures _ three in
    let five = c.in_ok-task-5.ensures _ four in
    let six = c.in_ok-task-6.ensures _ five in
    let seven = c.in_ok-task-7.ensures _ six in
    let eight = c.in_ok-task-8.ensures _ seven in
    c.in_ok-task-9.ensures _ eight
