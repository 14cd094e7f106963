use Rattle.std.proofs.Common.{inr, string_bytes}
use Rattle.std.proofs.lemmas.Result.{err_from_is_err_and}
use Rattle.lab_tasks.specs.Words.{text_of}
use Rattle.lab_tasks.proofs.Given.{given_beside}
use Rattle.lab_tasks.proofs.task.map.Goals as goal

pub returns-clause-done : goal.returns-clause-done
returns-clause-done c = (
  c.in_ok-project.project,
  c.in_ok-plan.plan,
  string_bytes c.in_ok-text.text,
  c.in_ok-project.ensures.filed,
  rw (c.shape.ensures, c.horizon.ensures.horizon) at c.in_ok-plan.ensures.told,
  c.in_ok-text.ensures.drawn,
  given_beside (text_of c.args.words.now.out) (string_bytes c.in_ok-text.text) c.in_ok-outcome.outcome c.elsewhere-outcome.result (rw (c.into_bytes.ensures.value) at c.in_ok-outcome.ensures),
  c.elsewhere-outcome.ensures,
)

pub returns-in_err-plan-clause-refused : goal.returns-in_err-plan-clause-refused
returns-in_err-plan-clause-refused c =
    let p = err_from_is_err_and c.from_residual-in_err-plan.result c.from_residual-in_err-plan.ensures.1 in
    rw (p.1, p.2)
    (inr (inr (c.in_ok-project.project, c.in_ok-project.ensures.filed, rw (c.shape.ensures, c.horizon.ensures.horizon) at c.in_err-plan.ensures.refused)))
