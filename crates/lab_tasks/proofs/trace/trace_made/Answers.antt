use Rattle.std.proofs.Common.{◌≡◌, ◌∙◌, ℕ, List, string_bytes, subst}
use Rattle.machine_cells.specs.Run.{run}
use Rattle.machine_cells.specs.Runs.{state_in}
use Rattle.run_reports.specs.declared.spans.Span.{Span}
use Rattle.run_reports.specs.Traces.{trace}
use Rattle.report_pictures.specs.TracePictures.{IsTracePicture}
use Rattle.lab_tasks.proofs.trace.trace_made.Goals as goal

pub returns-in-Some-clause-text : goal.returns-in-Some-clause-text
returns-in-Some-clause-text c =
    let P = c.args.project.now in
    let x = c.args.tag in
    let file = c.args.words.now.file.now in
    let text = string_bytes c.in_ok-trace_picture-in-Some.field-0 in
    let spans : c.as_slice.result.now ≡ trace P (state_in (run P)) x = c.as_slice.ensures.value ∙ c.in_ok-spans.ensures in
    rw c.in-Some.is
    (subst (λ (k : ℕ). IsTracePicture k file x (trace P (state_in (run P)) x) text) c.shape-shape.ensures
    (subst (λ (ss : List Span). IsTracePicture c.shape-shape.result file x ss text) spans c.in_ok-trace_picture-in-Some.ensures))
