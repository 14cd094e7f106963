use Rattle.std.proofs.Common.{◌∙◌, ℕ, List, codes, inl, subst}
use Rattle.std.proofs.lemmas.Result.{IfOk-weaker}
use Rattle.line_words.specs.Words.{words_of}
use Rattle.lab_tasks.specs.ShellReports.{IsSeriesReported, IsToldBy}
use Rattle.lab_tasks.specs.Subcommands.{words_for}
use Rattle.lab_tasks.proofs.shell_report.series_reported.Goals as goal

pub returns-in-Some : goal.returns-in-Some
returns-in-Some c =
    let P = c.args.project.now in
    let are = rw c.in-Some.is at c.in_ok-phrases.ensures.texts in
    IfOk-weaker c.gauges_told.result (IsToldBy P (words_for (codes "series") c.as_slice.result.now)) (IsSeriesReported P (words_of c.args.words.now))
    (λ s told. inl (subst (λ (ps : List (List ℕ)). IsToldBy P (words_for (codes "series") ps) s) (c.as_slice.ensures.value ∙ are) told)) c.gauges_told.ensures
