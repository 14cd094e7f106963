use Rattle.std.proofs.Common.{◌<◌, ◌≤◌, ◌∙◌, ap, sym, length, set, Option, arith}
use Rattle.omega_net.specs.declared.message.Reply.{Reply}
use Rattle.run_reports.specs.declared.reference.Reference.{Reference}
use Rattle.run_reports.specs.Logs.{answered_at, marked}
use Rattle.run_reports.proofs.Logging.{marked_at, marked_none, marked_past}
use Rattle.run_reports.proofs.reference.Log.add_reply.Goals as goal

pub returns-then-place-len-clause-references : goal.returns-then-place-len-clause-references
returns-then-place-len-clause-references c =
    let xs = c.args.self.now.references.items in
    let less : c.in-Some.reply.tag.issue < length xs = omega (arith, c.if-place-len.true, c.len.ensures) in
    ap (λ (r : Reference). set xs c.in-Some.reply.tag.issue r) (c.answered_at.ensures ∙ ap (answered_at c.args.cycle) c.index-reference.ensures)
    ∙ sym (marked_at c.args.cycle c.in-Some.reply c.index-reference.result.now xs less)
    ∙ ap (λ (y : Option Reply). marked c.args.cycle y 0 xs) (sym c.in-Some.is)

pub returns-else-place-len-clause-references : goal.returns-else-place-len-clause-references
returns-else-place-len-clause-references c =
    let xs = c.args.self.now.references.items in
    let far : length xs ≤ c.in-Some.reply.tag.issue = omega (arith, c.if-place-len.false, c.len.ensures) in
    sym (marked_past c.args.cycle c.in-Some.reply xs far) ∙ ap (λ (y : Option Reply). marked c.args.cycle y 0 xs) (sym c.in-Some.is)

pub returns-in_default-clause-references : goal.returns-in_default-clause-references
returns-in_default-clause-references c =
    sym (marked_none c.args.cycle 0 c.args.self.now.references.items)
    ∙ ap (λ (y : Option Reply). marked c.args.cycle y 0 c.args.self.now.references.items) (sym c.in_default.is)
