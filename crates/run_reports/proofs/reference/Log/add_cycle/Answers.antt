use Rattle.std.proofs.Common.{◌≡◌, ◌∙◌, ◌++◌, ap, ap₂, List, ℕ, Option}
use Rattle.std.specs.Prelude.{option_to_list}
use Rattle.omega_net.specs.declared.message.Reply.{Reply}
use Rattle.omega_net.specs.Ports.{message_at}
use Rattle.flat_row.specs.Row.{proc_of}
use Rattle.run_reports.specs.declared.reference.Reference.{Reference}
use Rattle.run_reports.specs.Logs.{issued_now, marked}
use Rattle.run_reports.proofs.Logging.{one_cycle}
use Rattle.run_reports.proofs.reference.Log.add_cycle.Goals as goal

pub returns : goal.returns
returns c = λ is.
    let P = c.args.project.now in
    let r = c.args.runner.now in
    let s = proc_of r.row c.args.proc in
    let old = c.args.self.now.references.items in
    let replied : c.add_reply-2.new.self.references.items ≡ marked r.cycle (message_at s.got 1) 0 (marked r.cycle (message_at s.got 0) 0 old) =
    c.add_reply-2.ensures.references
    ∙ ap₂ (λ (y : Option Reply) (xs : List Reference). marked r.cycle y 0 xs) (ap (λ (g : List (Option Reply)). message_at g 1) c.got.ensures)
    (c.add_reply.ensures.references ∙ ap (λ (g : List (Option Reply)). marked r.cycle (message_at g 0) 0 old) c.got.ensures) in
    one_cycle P r c.requires.at c.args.proc c.requires.there c.args.self.now c.add_issue.new.self is c.in_ok-add_issue.ensures.index
    (c.in_ok-add_issue.ensures.references
    ∙ ap₂ (λ (xs : List Reference) (i : ℕ). xs ++ option_to_list (issued_now P c.args.proc i r.cycle s)) replied (c.add_reply-2.ensures.index ∙ c.add_reply.ensures.index))
