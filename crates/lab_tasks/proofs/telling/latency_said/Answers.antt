use Rattle.std.proofs.Common.{◌∙◌, sym, subst}
use Rattle.std.proofs.lemmas.Result.{IfOk-weaker}
use Rattle.run_reports.specs.declared.condition.Window.{Window}
use Rattle.lab_tasks.specs.Tellings.{window_in, IsLatencySaid, IsSummary}
use Rattle.lab_tasks.proofs.Answering.{summary_told}
use Rattle.lab_tasks.proofs.telling.latency_said.Goals as goal

pub returns-then-reaches : goal.returns-then-reaches
returns-then-reaches c =
    let P = c.args.project.now in
    let ask = c.args.ask in
    let w = c.window_in-window.result in
    IfOk-weaker c.summary.result (IsSummary P ask w) (IsLatencySaid P ask (window_in P ask.ends ask.condition.window))
    (λ said is. subst (λ (v : Window). IsLatencySaid P ask v said) c.window_in-window.ensures
    (summary_told P ask w said (sym c.reaches.ensures ∙ c.if-reaches.true) is)) c.summary.ensures
