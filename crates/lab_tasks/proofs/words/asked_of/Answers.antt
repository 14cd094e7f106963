use Rattle.std.specs.Prelude.{IfNone}
use Rattle.std.proofs.lemmas.Result.{IfOk-weaker}
use Rattle.lab_tasks.specs.CommandLine.{other_tasks, IsNoneOf, IsNoTask}
use Rattle.lab_tasks.proofs.Tasks.{no_task, none_more}
use Rattle.lab_tasks.proofs.words.asked_of.Goals as goal

pub returns-in-None-clause-none : goal.returns-in-None-clause-none
returns-in-None-clause-none c =
    let name = c.args.name.now in
    let report = rw c.in-None.is at c.in_ok-report.ensures.none in
    IfOk-weaker c.other_asked.result (λ o. IfNone o (IsNoneOf other_tasks name)) (λ o. IfNone o (IsNoTask name))
    (λ o h. none_more o (IsNoneOf other_tasks name) (IsNoTask name) (no_task name report) h)
    c.other_asked.ensures.none
