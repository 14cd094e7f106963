use Rattle.std.proofs.Common.{inl, inr}
use Rattle.std.proofs.lemmas.Result.{err_from_is_err_and}
use Rattle.lab_tasks.proofs.plan.curve_plan.Goals as goal

pub returns-in_err-seed-clause-refused : goal.returns-in_err-seed-clause-refused
returns-in_err-seed-clause-refused c =
    let p = err_from_is_err_and c.from_residual-in_err-seed.result c.from_residual-in_err-seed.ensures.1 in
    rw (p.1, p.2)
    (inr (
      c.in_ok-k.k,
      c.in_ok-k.ensures.told,
      inr (
        c.in_ok-hot.hot.items,
        c.in_ok-hot.ensures.shares,
        inr (c.in_ok-cycles.cycles, c.in_ok-cycles.ensures.told, inl c.in_err-seed.ensures.untold),
      ),
    ))

pub returns-in_err-seeds-clause-refused : goal.returns-in_err-seeds-clause-refused
returns-in_err-seeds-clause-refused c =
    let p = err_from_is_err_and c.from_residual-in_err-seeds.result c.from_residual-in_err-seeds.ensures.1 in
    rw (p.1, p.2)
    (inr (
      c.in_ok-k.k,
      c.in_ok-k.ensures.told,
      inr (
        c.in_ok-hot.hot.items,
        c.in_ok-hot.ensures.shares,
        inr (c.in_ok-cycles.cycles, c.in_ok-cycles.ensures.told, inr (c.in_ok-seed.seed, c.in_ok-seed.ensures.told, inl c.in_err-seeds.ensures.untold)),
      ),
    ))

pub returns-in_err-of-clause-refused : goal.returns-in_err-of-clause-refused
returns-in_err-of-clause-refused c =
    let p = err_from_is_err_and c.from_residual-in_err-of.result c.from_residual-in_err-of.ensures.1 in
    rw (p.1, p.2)
    (inr (
      c.in_ok-k.k,
      c.in_ok-k.ensures.told,
      inr (
        c.in_ok-hot.hot.items,
        c.in_ok-hot.ensures.shares,
        inr (
          c.in_ok-cycles.cycles,
          c.in_ok-cycles.ensures.told,
          inr (c.in_ok-seed.seed, c.in_ok-seed.ensures.told, inr (c.in_ok-seeds.seeds, c.in_ok-seeds.ensures.told, c.in_err-of.ensures.none)),
        ),
      ),
    ))
