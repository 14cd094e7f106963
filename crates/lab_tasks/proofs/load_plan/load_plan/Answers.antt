use Rattle.std.proofs.Common.{inl, inr}
use Rattle.std.proofs.lemmas.Result.{err_from_is_err_and}
use Rattle.lab_tasks.proofs.load_plan.load_plan.Goals as goal

pub returns-in_err-span-clause-refused : goal.returns-in_err-span-clause-refused
returns-in_err-span-clause-refused c =
    let p = err_from_is_err_and c.from_residual-in_err-span.result c.from_residual-in_err-span.ensures.1 in
    rw (p.1, p.2) (inr (c.in_ok-k.k, c.in_ok-k.ensures.told, inr (c.in_ok-hot.hot.items, c.in_ok-hot.ensures.shares, inl c.in_err-span.ensures.none)))

pub returns-in_err-step-clause-refused : goal.returns-in_err-step-clause-refused
returns-in_err-step-clause-refused c =
    let p = err_from_is_err_and c.from_residual-in_err-step.result c.from_residual-in_err-step.ensures.1 in
    rw (p.1, p.2) (inr (c.in_ok-k.k, c.in_ok-k.ensures.told, inr (c.in_ok-hot.hot.items, c.in_ok-hot.ensures.shares, inr (c.in_ok-span.span, c.in_ok-span.ensures.span, inl c.in_err-step.ensures.untold))))

pub returns-in_err-cycles-clause-refused : goal.returns-in_err-cycles-clause-refused
returns-in_err-cycles-clause-refused c =
    let p = err_from_is_err_and c.from_residual-in_err-cycles.result c.from_residual-in_err-cycles.ensures.1 in
    rw (p.1, p.2) (inr (c.in_ok-k.k, c.in_ok-k.ensures.told, inr (c.in_ok-hot.hot.items, c.in_ok-hot.ensures.shares, inr (c.in_ok-span.span, c.in_ok-span.ensures.span, inr (c.in_ok-step.step, c.in_ok-step.ensures.told, inl c.in_err-cycles.ensures.untold)))))

pub returns-in_err-seed-clause-refused : goal.returns-in_err-seed-clause-refused
returns-in_err-seed-clause-refused c =
    let p = err_from_is_err_and c.from_residual-in_err-seed.result c.from_residual-in_err-seed.ensures.1 in
    rw (p.1, p.2) (inr (c.in_ok-k.k, c.in_ok-k.ensures.told, inr (c.in_ok-hot.hot.items, c.in_ok-hot.ensures.shares, inr (c.in_ok-span.span, c.in_ok-span.ensures.span, inr (c.in_ok-step.step, c.in_ok-step.ensures.told, inr (c.in_ok-cycles.cycles, c.in_ok-cycles.ensures.told, inl c.in_err-seed.ensures.untold))))))

pub returns-in_err-seeds-clause-refused : goal.returns-in_err-seeds-clause-refused
returns-in_err-seeds-clause-refused c =
    let p = err_from_is_err_and c.from_residual-in_err-seeds.result c.from_residual-in_err-seeds.ensures.1 in
    rw (p.1, p.2) (inr (c.in_ok-k.k, c.in_ok-k.ensures.told, inr (c.in_ok-hot.hot.items, c.in_ok-hot.ensures.shares, inr (c.in_ok-span.span, c.in_ok-span.ensures.span, inr (c.in_ok-step.step, c.in_ok-step.ensures.told, inr (c.in_ok-cycles.cycles, c.in_ok-cycles.ensures.told, inr (c.in_ok-seed.seed, c.in_ok-seed.ensures.told, c.in_err-seeds.ensures.untold)))))))
