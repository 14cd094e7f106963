use Rattle.std.proofs.Common.{subst, ◌∙◌}
use Rattle.std.proofs.lemmas.Result.{IfOk-weaker}
use Rattle.lab_tasks.specs.Tables.{table_text, delay_row}
use Rattle.lab_tasks.specs.Words.{text_of}
use Rattle.lab_tasks.specs.Done.{delay_header, IsTableGiven}
use Rattle.lab_tasks.specs.DelayPictures.{IsDelayPicture}
use Rattle.lab_tasks.specs.Kept.{IsWithKept}
use Rattle.lab_tasks.proofs.task.delays.Goals as goal

pub returns-clause-done : goal.returns-clause-done
returns-clause-done g c =
    let words = c.args.words.now in
    let plan = c.in_ok-plan.plan in
    let drawn = c.in_ok-outcome.outcome in
    let table =
    subst (λ points. IsTableGiven words (IsDelayPicture plan points) (table_text delay_header delay_row points) drawn) c.as_slice.ensures.value c.in_ok-outcome.ensures in
    IfOk-weaker c.with_kept.result _ _
    (λ outcome kept. (
      c.in_ok-plan.plan,
      c.in_ok-points.points.items,
      c.in_ok-plan.ensures.told,
      c.in_ok-points.ensures.points,
      (drawn, table, subst (λ loads. IsWithKept (text_of words.keep) loads drawn outcome) (c.as_slice-2.ensures.value ∙ c.in_ok-loads.ensures) kept),
    ))
    c.with_kept.ensures.kept
