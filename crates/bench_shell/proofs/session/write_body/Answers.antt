use Rattle.std.proofs.Common.{◌∙◌}
use Rattle.std.proofs.lemmas.Result.{on_ok_weaker, on_err_weaker}
use Rattle.bench_shell.specs.Text.{text_of}
use Rattle.bench_shell.proofs.Printing.{answer_shows, with_lf}
use Rattle.bench_shell.proofs.Writes.{Appends-same, Part-same}
use Rattle.bench_shell.proofs.session.write_body.Goals as goal

pub returns-clause-ok : goal.returns-clause-ok
returns-clause-ok g c =
    let told = c.as_bytes.ensures.value ∙ with_lf (text_of c.args.answer) _ (answer_shows c.args.answer) c.in-Ok.ensures.ok in
    on_ok_weaker c.write_bytes.result (λ q. Appends-same _ _ _ _ told q) c.write_bytes.ensures.ok

pub returns-clause-err : goal.returns-clause-err
returns-clause-err g c =
    let told = c.as_bytes.ensures.value ∙ with_lf (text_of c.args.answer) _ (answer_shows c.args.answer) c.in-Ok.ensures.ok in
    on_err_weaker c.write_bytes.result (λ q. Part-same _ _ _ _ told q) c.write_bytes.ensures.err
