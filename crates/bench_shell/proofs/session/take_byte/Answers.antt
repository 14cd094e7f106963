use Rattle.std.proofs.Common.{false, [], ◌∷◌, ◌++◌}
use Rattle.std.proofs.KnownBytes.{Appends-nil}
use Rattle.std.proofs.lemmas.Result.{on_ok_weaker}
use Rattle.bench_shell.proofs.Steps.{goes_held, goes_line, fails_line, fails_at_once, if_err, at_err, body_line, stops_printing, stops_line}
use Rattle.bench_shell.proofs.Own.{edits_held, edits_line, edits_in}
use Rattle.bench_shell.proofs.Writes.{kept_ok, kept_err}
use Rattle.bench_shell.proofs.session.take_byte.Goals as goal

pub returns-then-byte-ne10-clause-moves : goal.returns-then-byte-ne10-clause-moves
returns-then-byte-ne10-clause-moves g c =
    let held = c.args.held.now in
    let next = c.hold.new.self in
    goes_held (g.D.Desk.is_alone c.args.desk.now) _ (g.D.Desk.store c.args.desk.now) held.is_long next.is_long held.bytes.items next.bytes.items c.args.byte c.hold.ensures

pub returns-then-byte-ne10-clause-edits : goal.returns-then-byte-ne10-clause-edits
returns-then-byte-ne10-clause-edits g c =
    let held = c.args.held.now in
    let next = c.hold.new.self in
    edits_held (g.D.Desk.store c.args.desk.now) held.is_long next.is_long held.bytes.items next.bytes.items c.args.byte c.hold.ensures

pub returns-in-Ok-clause-moves : goal.returns-in-Ok-clause-moves
returns-in-Ok-clause-moves g c =
    let held = c.args.held.now in
    let answer = c.in-Ok.answer in
    rw (c.clear.ensures.is_long, c.clear.ensures.bytes, c.if-byte-ne10.false)
    (on_ok_weaker c.write_line.result
    (λ q. goes_line (g.D.Desk.is_alone c.args.desk.now) (g.D.Desk.is_alone c.line_answer.new.desk) _ _ (g.D.Desk.store c.args.desk.now) (g.D.Desk.store c.line_answer.new.desk) held.is_long held.bytes.items answer
    c.line_answer.ensures.earlier c.in-Ok.ensures.own c.in-Ok.ensures.answers q)
    c.write_line.ensures.ok)

pub returns-in-Ok-clause-edits : goal.returns-in-Ok-clause-edits
returns-in-Ok-clause-edits g c =
    let held = c.args.held.now in
    rw (c.clear.ensures.is_long, c.clear.ensures.bytes, c.if-byte-ne10.false)
    (kept_ok c.write_line.result (edits_line (g.D.Desk.store c.args.desk.now) (g.D.Desk.store c.line_answer.new.desk) held.is_long held.bytes.items c.line_answer.ensures.edits))

pub returns-in-Ok-clause-edits_in : goal.returns-in-Ok-clause-edits_in
returns-in-Ok-clause-edits_in g c =
    let held = c.args.held.now in
    let s = g.D.Desk.store c.args.desk.now in
    let t = g.D.Desk.store c.line_answer.new.desk in
    rw c.if-byte-ne10.false
    (kept_err c.write_line.result (edits_in s t held.is_long false held.bytes.items [] (10 ∷ []) (edits_line s t held.is_long held.bytes.items c.line_answer.ensures.edits)))

pub returns-in-Err-clause-edits_in : goal.returns-in-Err-clause-edits_in
returns-in-Err-clause-edits_in g c =
    let held = c.args.held.now in
    let s = g.D.Desk.store c.args.desk.now in
    let t = g.D.Desk.store c.line_answer.new.desk in
    rw c.if-byte-ne10.false
    (edits_in s t held.is_long false held.bytes.items [] (10 ∷ []) (edits_line s t held.is_long held.bytes.items c.line_answer.ensures.edits))

pub returns-in-Ok-clause-fails : goal.returns-in-Ok-clause-fails
returns-in-Ok-clause-fails g c = λ alone.
    let held = c.args.held.now in
    let answer = c.in-Ok.answer in
    let s = g.D.Desk.store c.args.desk.now in
    let spent = g.D.Desk.clock_is_spent c.line_answer.new.desk in
    rw c.if-byte-ne10.false
    (if_err c.write_line.result _ _ _ _ _ _ c.write_line.ensures.cause
    (λ f is cause.
    let q = at_err c.write_line.result f is c.write_line.ensures.err in (
      q.0,
      q.2,
      fails_line spent f s (g.D.Desk.store c.line_answer.new.desk) held.is_long held.bytes.items answer q.0 q.1 (c.in-Ok.ensures.answers alone) q.3
          (λ line p. stops_printing spent f s (line ++ 10 ∷ []) [] _ _ cause (λ body. body_line s line p.no_lf (c.in-Ok.ensures.body alone body line p))),
    )))

pub returns-in-Err-clause-fails : goal.returns-in-Err-clause-fails
returns-in-Err-clause-fails g c = λ alone.
    let held = c.args.held.now in
    let s = g.D.Desk.store c.args.desk.now in
    let spent = g.D.Desk.clock_is_spent c.line_answer.new.desk in
    let fault = c.in-Err.fault in
    rw c.if-byte-ne10.false (
      [],
      Appends-nil _,
      fails_at_once spent fault s (g.D.Desk.store c.line_answer.new.desk) held.is_long held.bytes.items (10 ∷ []) (c.in-Err.ensures.kept alone)
          (λ line p. stops_line spent fault s line p.no_lf (c.in-Err.ensures.stops alone line p)),
    )
