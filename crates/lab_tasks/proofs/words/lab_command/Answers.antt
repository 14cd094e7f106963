use Rattle.lab_tasks.specs.CommandLine.{bare, busy_task, check_task, convert_task, delays_task, done_task, full_task, lab, latency_task, load_task, map_task, order_task, page_task, rates_task, series_task, shell_task, sweep_task, trace_task}
use Rattle.lab_tasks.proofs.words.lab_command.Goals as goal

pub returns : goal.returns
unfolding lab
returns c =
    let one = c.in_ok-command-2.ensures bare map_task c.in_ok-command.ensures c.map_command.ensures in
    let two = c.in_ok-command-3.ensures _ order_task one c.order_command.ensures in
    let three = c.in_ok-command-4.ensures _ latency_task two c.latency_command.ensures in
    let four = c.in_ok-command-5.ensures _ done_task three c.done_command.ensures in
    let five = c.in_ok-command-6.ensures _ trace_task four c.trace_command.ensures in
    let six = c.in_ok-command-7.ensures _ full_task five c.full_command.ensures in
    let seven = c.in_ok-command-8.ensures _ series_task six c.series_command.ensures in
    let eight = c.in_ok-command-9.ensures _ busy_task seven c.busy_command.ensures in
    let nine = c.in_ok-command-10.ensures _ rates_task eight c.rates_command.ensures in
    let ten = c.in_ok-command-11.ensures _ delays_task nine c.delays_command.ensures in
    let eleven = c.in_ok-command-12.ensures _ load_task ten c.load_command.ensures in
    let twelve = c.in_ok-command-13.ensures _ sweep_task eleven c.sweep_command.ensures in
    let thirteen = c.in_ok-command-14.ensures _ check_task twelve c.check_command.ensures in
    let fourteen = c.in_ok-command-15.ensures _ convert_task thirteen c.convert_command.ensures in
    let fifteen = c.in_ok-command-16.ensures _ page_task fourteen c.page_command.ensures in
    c.in_ok-command-17.ensures _ shell_task fifteen c.shell_command.ensures
