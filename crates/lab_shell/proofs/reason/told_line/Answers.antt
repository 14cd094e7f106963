use Rattle.bench_shell.specs.Text.{text_of}
use Rattle.bench_shell.proofs.Printing.{answer_shows, with_lf}
use Rattle.lab_shell.proofs.Reasoning.{behind_shows}
use Rattle.lab_shell.specs.Reasons.{reason_of, reasoned_text}
use Rattle.lab_shell.proofs.reason.told_line.Goals as goal

pub returns-then-people : goal.returns-then-people
returns-then-people c =
    let a = c.args.answer.now in
    rw c.if-people.true (with_lf (reasoned_text a) _ (behind_shows (text_of a) (reason_of a) (answer_shows a)) c.in_ok-text.ensures.ok)

pub returns : goal.returns
returns c =
    let a = c.args.answer.now in
    rw c.if-people.false (with_lf (text_of a) _ (answer_shows a) c.in_ok-text-2.ensures.ok)
