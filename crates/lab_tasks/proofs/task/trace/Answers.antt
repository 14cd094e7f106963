use Rattle.std.proofs.Common.{ℕ, List, ap, subst, sym}
use Rattle.machine_cells.specs.Run.{run}
use Rattle.machine_cells.specs.Runs.{state_in}
use Rattle.run_reports.specs.Traces.{trace}
use Rattle.lab_tasks.specs.Traces.{IsLineOrPicture}
use Rattle.lab_tasks.specs.Words.{text_of}
use Rattle.lab_tasks.proofs.task.trace.Goals as goal

pub returns-clause-done : goal.returns-clause-done
returns-clause-done c =
    let P = c.in_ok-project.project in
    let words = c.args.words.now in
    let x = c.in_ok-tag.tag in (
      P,
      c.into_bytes.result.items,
      c.in_ok-project.ensures.filed,
      (
        x,
        c.in_ok-tag.ensures.told,
        subst (λ (text : List ℕ). IsLineOrPicture (text_of words.out) P.k words.file.now x (trace P (state_in (run P)) x) text)
            (sym (ap (λ v. v.items) c.into_bytes.ensures.value)) c.in_ok-text.ensures.text,
      ),
      c.in_ok-to_file_or_output.ensures,
    )
