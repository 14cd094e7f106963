use Rattle.std.proofs.Common.{subst}
use Rattle.lab_shell.specs.Steps.{IsLine}
use Rattle.lab_shell.proofs.Talking.{turned_ok}
use Rattle.lab_shell.proofs.session.turn.Goals as goal

pub returns-clause-ok : goal.returns-clause-ok
returns-clause-ok g c =
    let bytes = c.without_end-is_whole.result.0.now in
    let whole = c.without_end-is_whole.result.1 in
    let line = subst (λ text. IsLine text bytes whole) c.as_slice.ensures.value c.without_end-is_whole.ensures in
    turned_ok (g.C.Clerk.says c.args.clerk.now) c.args.manner _ _ _ _ _ _ _ c.in-Ok-next_line.line.items bytes whole c.line_done.result
    line c.in-Ok-next_line.ensures.read c.in-Ok-next_line.ensures.end c.in-Ok.ensures.ok c.line_done.ensures.ok
