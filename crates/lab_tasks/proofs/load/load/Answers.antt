use Rattle.std.proofs.Common.{subst, ◌∙◌}
use Rattle.std.specs.List.{AllZip}
use Rattle.std.proofs.lemmas.Result.{IfOk-weaker}
use Rattle.lab_tasks.specs.Tables.{table_text}
use Rattle.lab_tasks.specs.Words.{text_of}
use Rattle.lab_tasks.specs.Done.{IsTableGiven}
use Rattle.lab_tasks.specs.LoadPictures.{IsLoadPicture}
use Rattle.lab_tasks.specs.LoadTables.{load_header, load_row, IsLoadPoint}
use Rattle.lab_tasks.specs.Kept.{IsWithOffers}
use Rattle.lab_tasks.proofs.load.load.Goals as goal

pub returns-clause-done : goal.returns-clause-done
returns-clause-done g c =
    let words = c.args.words.now in
    let plan = c.in_ok-plan.plan in
    let drawn = c.in_ok-outcome.outcome in
    let points = c.in_ok-points.points.items in
    let table =
    subst (λ points. IsTableGiven words.curves (IsLoadPicture plan points) (table_text load_header load_row points) drawn) c.as_slice-2.ensures.value c.in_ok-outcome.ensures in
    IfOk-weaker c.with_offers.result _ _
    (λ outcome kept. (
      plan,
      points,
      drawn,
      c.in_ok-plan.ensures.told,
      subst (λ offers. AllZip IsLoadPoint offers points) (c.as_slice.ensures.value ∙ c.in_ok-offers.ensures) c.in_ok-points.ensures.points,
      table,
      subst (λ offers. IsWithOffers (text_of words.curves.keep) offers drawn outcome) (c.as_slice-3.ensures.value ∙ c.in_ok-offers.ensures) kept,
    ))
    c.with_offers.ensures.kept
