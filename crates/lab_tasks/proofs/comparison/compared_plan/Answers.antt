use Rattle.std.proofs.Common.{inr, sym, ◌∙◌}
use Rattle.std.proofs.lemmas.Result.{err_from_is_err_and}
use Rattle.lab_tasks.proofs.comparison.compared_plan.Goals as goal

pub returns-in_err-plan-clause-refused : goal.returns-in_err-plan-clause-refused
returns-in_err-plan-clause-refused c =
    let p = err_from_is_err_and c.from_residual-in_err-plan.result c.from_residual-in_err-plan.ensures.1 in
    let same = sym c.k-2.ensures.k ∙ c.in_ok-refuse_size.ensures.same ∙ c.k.ensures.k in
    rw (p.1, p.2)
    (inr (same, rw (c.shape.ensures, c.min-horizon.ensures, c.horizon.ensures.horizon, c.horizon-2.ensures.horizon) at c.in_err-plan.ensures.refused))
