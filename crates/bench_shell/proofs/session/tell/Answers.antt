use Rattle.bench_shell.proofs.Writes.{Part-whole, Appends-kept, kept_ok, kept_err}
use Rattle.bench_shell.proofs.session.tell.Goals as goal

pub returns-in-Ok-clause-ok : goal.returns-in-Ok-clause-ok
returns-in-Ok-clause-ok g c = kept_ok c.hand_on.result (Appends-kept _ _ _ _ c.in-Ok.ensures.ok c.hand_on.ensures.bytes)

pub returns-in-Ok-clause-err : goal.returns-in-Ok-clause-err
returns-in-Ok-clause-err g c = kept_err c.hand_on.result (Part-whole _ _ _ (Appends-kept _ _ _ _ c.in-Ok.ensures.ok c.hand_on.ensures.bytes))
