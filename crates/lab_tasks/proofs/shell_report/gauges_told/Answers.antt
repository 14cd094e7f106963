use Rattle.std.proofs.Common.{◌∙◌, ℕ, List, ap, codes, subst}
use Rattle.std.proofs.lemmas.Result.{IfOk-weaker}
use Rattle.clap.specs.Walk.{texts}
use Rattle.lab_tasks.specs.ShellReports.{IsToldBy}
use Rattle.lab_tasks.specs.Subcommands.{words_for}
use Rattle.lab_tasks.proofs.shell_report.gauges_told.Goals as goal

pub returns : goal.returns
returns c =
    let P = c.args.project.now in
    IfOk-weaker c.told_by.result (IsToldBy P (texts c.as_slice.result.now)) (IsToldBy P (words_for (codes "series") c.args.phrases.now))
    (λ s told. subst (λ (ws : List (List ℕ)). IsToldBy P ws s) (ap texts c.as_slice.ensures.value ∙ c.in_ok-texts.ensures) told) c.told_by.ensures
