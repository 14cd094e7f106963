use Rattle.std.proofs.Common.{◌∙◌, ◌++◌, ◌∷◌, [], List, ap, sym}
use Rattle.machine_cells.specs.Run.{run}
use Rattle.machine_cells.specs.Runs.{state_in}
use Rattle.run_reports.specs.declared.completion.Completion.{Completion}
use Rattle.run_reports.specs.Completions.{completion_of}
use Rattle.run_reports.proofs.Marking.{one_more_value}
use Rattle.run_reports.proofs.completion.first_completions.Goals as goal

pub loop-proc-preserved : goal.loop-proc-preserved
loop-proc-preserved c =
    let f = completion_of c.args.project.now (state_in (run c.args.project.now)) 0 in
    let n = c.loop-proc.proc in
    c.in_ok-push.ensures.items ∙ ap (λ (xs : List Completion). xs ++ f n ∷ []) c.loop-proc.invariant ∙ sym (one_more_value f n)
