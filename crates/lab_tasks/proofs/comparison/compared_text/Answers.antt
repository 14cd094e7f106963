use Rattle.std.proofs.Common.{inr}
use Rattle.std.proofs.lemmas.Result.{err_from_is_err_and}
use Rattle.lab_tasks.proofs.comparison.compared_text.Goals as goal

pub returns-in_err-plan-clause-refused : goal.returns-in_err-plan-clause-refused
returns-in_err-plan-clause-refused c =
    let p = err_from_is_err_and c.from_residual-in_err-plan.result c.from_residual-in_err-plan.ensures.1 in
    rw (p.1, p.2) (inr (inr (c.in_ok-other.other, c.in_ok-other.ensures.filed, c.in_err-plan.ensures.refused)))

pub returns-clause-drawn : goal.returns-clause-drawn
returns-clause-drawn c = (
  c.in_ok-other.other,
  c.in_ok-plan.plan,
  c.in_ok-other.ensures.filed,
  c.in_ok-plan.ensures.same,
  c.in_ok-plan.ensures.told,
  c.in_ok-text.ensures.drawn,
)
