use Rattle.std.proofs.Common.{ne_eqb}
use Rattle.bench_shell.proofs.Steps.{holds_more, holds_full}
use Rattle.bench_shell.proofs.held.Held.hold.Goals as goal

pub returns-in-Ok : goal.returns-in-Ok
returns-in-Ok c = λ line holds.
    let old = c.args.self.now in
    rw c.in-Ok.ensures.ok (holds_more old.is_long old.bytes.items line c.args.byte (ne_eqb _ _ c.requires) holds)

pub returns-in-Err : goal.returns-in-Err
returns-in-Err c = λ line holds.
    let old = c.args.self.now in
    rw c.in-Err.ensures.err (holds_full old.is_long old.bytes.items line c.args.byte (ne_eqb _ _ c.requires) c.in-Err.ensures.full holds)
