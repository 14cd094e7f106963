use Rattle.std.proofs.Common.{inl, inr}
use Rattle.std.proofs.lemmas.Result.{err_from_is_err_and}
use Rattle.lab_tasks.proofs.latency.condition.Goals as goal

pub returns-in_err-address-clause-refused : goal.returns-in_err-address-clause-refused
returns-in_err-address-clause-refused c =
    let p = err_from_is_err_and c.from_residual-in_err-address.result c.from_residual-in_err-address.ensures.1 in
    rw (p.1, p.2) (inr (c.in_ok-proc.proc, c.in_ok-proc.ensures.told, inr (c.in_ok-net.net, c.in_ok-net.ensures.net, inl c.in_err-address.ensures.untold)))

pub returns-in_err-page-clause-refused : goal.returns-in_err-page-clause-refused
returns-in_err-page-clause-refused c =
    let p = err_from_is_err_and c.from_residual-in_err-page.result c.from_residual-in_err-page.ensures.1 in
    rw (p.1, p.2) (inr (c.in_ok-proc.proc, c.in_ok-proc.ensures.told, inr (c.in_ok-net.net, c.in_ok-net.ensures.net, inr (c.in_ok-address.address, c.in_ok-address.ensures.told, inl c.in_err-page.ensures.untold))))

pub returns-in_err-cycles-clause-refused : goal.returns-in_err-cycles-clause-refused
returns-in_err-cycles-clause-refused c =
    let p = err_from_is_err_and c.from_residual-in_err-cycles.result c.from_residual-in_err-cycles.ensures.1 in
    rw (p.1, p.2) (inr (c.in_ok-proc.proc, c.in_ok-proc.ensures.told, inr (c.in_ok-net.net, c.in_ok-net.ensures.net, inr (c.in_ok-address.address, c.in_ok-address.ensures.told, inr (c.in_ok-page.page, c.in_ok-page.ensures.told, inl c.in_err-cycles.ensures.refused)))))

pub returns-in_err-refuse_both-clause-refused : goal.returns-in_err-refuse_both-clause-refused
returns-in_err-refuse_both-clause-refused c =
    let p = err_from_is_err_and c.from_residual-in_err-refuse_both.result c.from_residual-in_err-refuse_both.ensures.1 in
    rw (p.1, p.2) (inr (c.in_ok-proc.proc, c.in_ok-proc.ensures.told, inr (c.in_ok-net.net, c.in_ok-net.ensures.net, inr (c.in_ok-address.address, c.in_ok-address.ensures.told, inr (c.in_ok-page.page, c.in_ok-page.ensures.told, inr (c.in_ok-cycles.cycles, c.in_ok-cycles.ensures.told, c.in_err-refuse_both.ensures.both))))))
