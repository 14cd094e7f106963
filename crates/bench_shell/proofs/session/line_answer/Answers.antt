use Rattle.std.proofs.Common.{◌∙◌, ap, ◌≤◌, length, inl, refl}
use Rattle.bench_shell.specs.Output.{command_in}
use Rattle.bench_shell.proofs.Steps.{long_answered, line_answered, line_stops, line_body}
use Rattle.bench_shell.proofs.Own.{line_edits}
use Rattle.bench_shell.proofs.session.line_answer.Goals as goal

pub returns-then-held-clause-answers : goal.returns-then-held-clause-answers
returns-then-held-clause-answers g c = λ alone line holds. long_answered (g.D.Desk.store c.args.desk.now) line holds.no_lf (holds.long c.if-held.true)

pub returns-clause-answers : goal.returns-clause-answers
returns-clause-answers g c = λ alone.
    let h = c.args.held.now.bytes.items in
    let s = g.D.Desk.store c.args.desk.now in
    let fits : length h ≤ 4096 = rw (← c.as_slice.ensures.value) c.as_slice.ensures.fits in
    line_answered c.obey.result s (g.D.Desk.store c.obey.new.desk) c.args.held.now.is_long h c.command_in-command.result c.if-held.false fits
    (c.command_in-command.ensures ∙ ap (command_in s) c.as_slice.ensures.value) (c.obey.ensures.answer alone) (c.obey.ensures.store alone)

pub returns-clause-stops : goal.returns-clause-stops
returns-clause-stops g c = λ alone.
    let h = c.args.held.now.bytes.items in
    let s = g.D.Desk.store c.args.desk.now in
    let fits : length h ≤ 4096 = rw (← c.as_slice.ensures.value) c.as_slice.ensures.fits in
    line_stops c.obey.result (g.D.Desk.clock_is_spent c.obey.new.desk) s c.args.held.now.is_long h c.command_in-command.result c.if-held.false fits
    (c.command_in-command.ensures ∙ ap (command_in s) c.as_slice.ensures.value) (c.obey.ensures.stops alone)

pub returns-then-held-clause-edits : goal.returns-then-held-clause-edits
returns-then-held-clause-edits g c = λ line p. inl refl

pub returns-clause-edits : goal.returns-clause-edits
returns-clause-edits g c =
    let h = c.args.held.now.bytes.items in
    let s = g.D.Desk.store c.args.desk.now in
    let fits : length h ≤ 4096 = rw (← c.as_slice.ensures.value) c.as_slice.ensures.fits in
    line_edits s (g.D.Desk.store c.obey.new.desk) c.args.held.now.is_long h c.command_in-command.result c.if-held.false fits
    (c.command_in-command.ensures ∙ ap (command_in s) c.as_slice.ensures.value) c.obey.ensures.edits

pub returns-then-held-clause-body : goal.returns-then-held-clause-body
returns-then-held-clause-body g c = λ alone body. absurd cc

pub returns-clause-body : goal.returns-clause-body
returns-clause-body g c = λ alone.
    let h = c.args.held.now.bytes.items in
    let s = g.D.Desk.store c.args.desk.now in
    let fits : length h ≤ 4096 = rw (← c.as_slice.ensures.value) c.as_slice.ensures.fits in
    line_body c.obey.result s c.args.held.now.is_long h c.command_in-command.result c.if-held.false fits
    (c.command_in-command.ensures ∙ ap (command_in s) c.as_slice.ensures.value) (c.obey.ensures.answer alone)
