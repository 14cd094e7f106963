use Rattle.std.proofs.Common.{rules, ◌≡◌, ◌∙◌, ap, length, sum}
use Rattle.project_book.specs.Project.{Project}
use Rattle.machine_cells.specs.Run.{run}
use Rattle.machine_cells.specs.Runs.{state_in}
use Rattle.experiments.specs.Delays.{waits}
use Rattle.experiments.proofs.delays.waited_by.Goals as goal

pub returns-in-Some : goal.returns-in-Some
returns-in-Some c =
    let xs = c.in-Ok-cold_waits.numbers.items in
    let listed = c.in-Ok-cold_waits.ensures ∙ ap (λ (P : Project). waits P (state_in (run P)) c.args.from c.args.load.cycles) c.in-Ok.ensures in
    let many : c.len.result ≡ length xs = search rules in
    let long : c.in-Some.cycles ≡ sum xs = search rules in
    (many ∙ ap length listed, long ∙ ap sum listed)
