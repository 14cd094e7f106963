use Rattle.bench_shell.proofs.Writes.{kept_ok, kept_err}
use Rattle.bench_shell.proofs.Steps.{goes_kept, goes_fails, fails_kept, if_err}
use Rattle.bench_shell.proofs.Own.{edits_in}
use Rattle.bench_shell.proofs.session.take_piece.Goals as goal

pub returns-in-Ok-clause-moves : goal.returns-in-Ok-clause-moves
returns-in-Ok-clause-moves g c =
    let held = c.args.held.now in
    let next = c.take_each.new.held in
    kept_ok c.hand_on.result
    (goes_kept (g.D.Desk.is_alone c.args.desk.now) (g.D.Desk.is_alone c.take_each.new.desk) _ _ _ (g.D.Desk.store c.args.desk.now) (g.D.Desk.store c.take_each.new.desk)
    held.is_long next.is_long held.bytes.items next.bytes.items c.args.piece.now c.in-Ok.ensures.moves c.hand_on.ensures.bytes)

pub returns-in-Ok-clause-edits : goal.returns-in-Ok-clause-edits
returns-in-Ok-clause-edits g c = kept_ok c.hand_on.result c.in-Ok.ensures.edits

pub returns-in-Ok-clause-edits_in : goal.returns-in-Ok-clause-edits_in
returns-in-Ok-clause-edits_in g c =
    let held = c.args.held.now in
    let next = c.take_each.new.held in
    kept_err c.hand_on.result
    (edits_in (g.D.Desk.store c.args.desk.now) (g.D.Desk.store c.take_each.new.desk) held.is_long next.is_long held.bytes.items next.bytes.items c.args.piece.now c.in-Ok.ensures.edits)

pub returns-in-Ok-clause-fails : goal.returns-in-Ok-clause-fails
returns-in-Ok-clause-fails g c = λ alone.
    let held = c.args.held.now in
    let next = c.take_each.new.held in
    if_err c.hand_on.result _ _ _ _ _ _ c.hand_on.ensures.cause
    (λ f is cause. goes_fails (g.D.Desk.clock_is_spent c.take_each.new.desk) f _ (g.D.Desk.is_alone c.args.desk.now) (g.D.Desk.is_alone c.take_each.new.desk) _ _ _ (g.D.Desk.store c.args.desk.now) (g.D.Desk.store c.take_each.new.desk)
    held.is_long next.is_long held.bytes.items next.bytes.items c.args.piece.now c.in-Ok.ensures.moves c.hand_on.ensures.bytes cause alone)

pub returns-in-Err-clause-fails : goal.returns-in-Err-clause-fails
returns-in-Err-clause-fails g c = λ alone.
    let held = c.args.held.now in
    fails_kept (g.D.Desk.clock_is_spent c.take_each.new.desk) c.in-Err.fault _ _ _ (g.D.Desk.store c.args.desk.now) (g.D.Desk.store c.take_each.new.desk) held.is_long held.bytes.items c.args.piece.now
    (c.in-Err.ensures.fails alone) c.flush.ensures.bytes
