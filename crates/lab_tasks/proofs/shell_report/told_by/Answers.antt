use Rattle.std.proofs.Common.{inl}
use Rattle.std.proofs.lemmas.Result.{IfOk-weaker}
use Rattle.clap.specs.Walk.{texts}
use Rattle.lab_tasks.specs.ShellReports.{IsAnswered, IsToldBy}
use Rattle.lab_tasks.proofs.shell_report.told_by.Goals as goal

pub returns-in-Some : goal.returns-in-Some
returns-in-Some c =
    let asked = c.in-Some.asked in
    let asks = rw c.in-Some.is at c.in_ok-asked.ensures.asked in
    IfOk-weaker c.answered.result (IsAnswered c.args.project.now asked) (IsToldBy c.args.project.now (texts c.args.words.now))
    (λ s is. inl (asked, asks, is)) c.answered.ensures
