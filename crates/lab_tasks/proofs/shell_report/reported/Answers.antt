use Rattle.std.proofs.Common.{◌∙◌, ℕ, List, ap, inl, subst}
use Rattle.std.proofs.lemmas.Result.{IfOk-weaker}
use Rattle.clap.specs.Walk.{texts}
use Rattle.line_words.specs.Words.{words_of}
use Rattle.lab_tasks.specs.ShellReports.{IsReported, IsToldBy}
use Rattle.lab_tasks.proofs.shell_report.reported.Goals as goal

pub returns-in-Some : goal.returns-in-Some
returns-in-Some c =
    let P = c.args.project.now in
    let are = rw c.in-Some.is at c.in_ok-texts.ensures.texts in
    IfOk-weaker c.told_by.result (IsToldBy P (texts c.as_slice.result.now)) (IsReported P c.args.name.now (words_of c.args.words.now))
    (λ s told. inl (subst (λ (ws : List (List ℕ)). IsToldBy P ws s) (ap texts c.as_slice.ensures.value ∙ are) told)) c.told_by.ensures
