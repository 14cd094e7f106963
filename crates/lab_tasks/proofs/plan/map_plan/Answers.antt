use Rattle.std.proofs.Common.{inl, inr}
use Rattle.std.proofs.lemmas.Result.{err_from_is_err_and}
use Rattle.lab_tasks.proofs.plan.map_plan.Goals as goal

pub returns-in_err-over-clause-refused : goal.returns-in_err-over-clause-refused
returns-in_err-over-clause-refused c =
    let p = err_from_is_err_and c.from_residual-in_err-over.result c.from_residual-in_err-over.ensures.1 in
    rw (p.1, p.2) (inr (c.in_ok-net.net, c.in_ok-net.ensures.net, inr (c.in_ok-way.way, c.in_ok-way.ensures.way, inl c.in_err-over.ensures.none)))

pub returns-in_err-refuse_module-clause-refused : goal.returns-in_err-refuse_module-clause-refused
returns-in_err-refuse_module-clause-refused c =
    let p = err_from_is_err_and c.from_residual-in_err-refuse_module.result c.from_residual-in_err-refuse_module.ensures.1 in
    rw (p.1, p.2)
    (inr (
      c.in_ok-net.net,
      c.in_ok-net.ensures.net,
      inr (c.in_ok-way.way, c.in_ok-way.ensures.way, inr (c.in_ok-over.over, c.in_ok-over.ensures.over, inl c.in_err-refuse_module.ensures.refused)),
    ))

pub returns-in_err-place-clause-refused : goal.returns-in_err-place-clause-refused
returns-in_err-place-clause-refused c =
    let p = err_from_is_err_and c.from_residual-in_err-place.result c.from_residual-in_err-place.ensures.1 in
    rw (p.1, p.2)
    (inr (
      c.in_ok-net.net,
      c.in_ok-net.ensures.net,
      inr (
        c.in_ok-way.way,
        c.in_ok-way.ensures.way,
        inr (c.in_ok-over.over, c.in_ok-over.ensures.over, inr (c.in_ok-refuse_module.ensures.taken, c.in_err-place.ensures.refused)),
      ),
    ))
