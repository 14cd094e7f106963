use Rattle.std.proofs.Common.{◌∙◌, ap, false}
use Rattle.ref_proc.specs.RefProc.{proc_after}
use Rattle.flat_row.proofs.Processing.{has_issued}
use Rattle.flat_row.proofs.acting.acted.Goals as goal

pub returns-clause-acted : goal.returns-clause-acted
returns-clause-acted c = c.step.ensures ∙ ap (λ s. proc_after s (record { replies = c.args.replies; request_leaves = false }) c.args.own) c.proc_settings-settings.ensures

pub returns-clause-issued : goal.returns-clause-issued
returns-clause-issued c = has_issued c.proc_settings-settings.result c.args.replies c.args.own c.step.result c.step.ensures
