use Rattle.std.proofs.Common.{◌∙◌, ap, refl, Some, None}
use Rattle.std.specs.Prelude.{if◌then◌else◌}
use Rattle.machine_cells.specs.declared.state.MachineState.TheVariants.{Proc}
use Rattle.flat_row.specs.Row.{proc_of}
use Rattle.run_queries.specs.Answers.{first_of}
use Rattle.run_reports.specs.Completions.{has_ended}
use Rattle.run_reports.proofs.Marking.{seen}
use Rattle.run_reports.proofs.completion.with_cycle.Goals as goal

pub returns : goal.returns
returns c = λ is.
    let r = c.args.runner.now in
    let p = c.args.before.proc in
    let before = c.args.before in
    seen c.args.project.now r p before _ c.requires.at c.requires.there is refl c.last_reply.ensures
    (c.script_end.ensures ∙ ap (λ n. first_of before.script_end (if has_ended n (Some (Proc (proc_of r.row p))) then Some r.cycle else None)) c.length.ensures.length)
